use Rattle.bayou_lang.specs.Laws.Database.{number_with-changed}
use Rattle.bayou_lang.proofs.laws.a_change_counts_for_its_key.Goals as goal

pub returns : goal.returns
returns c = number_with-changed
