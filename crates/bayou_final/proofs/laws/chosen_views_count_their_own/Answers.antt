use Rattle.bayou_final.proofs.Chosen.{own_is_counted}
use Rattle.bayou_final.proofs.laws.chosen_views_count_their_own.Goals as goal

pub returns : goal.returns
returns c = own_is_counted
