use Rattle.bayou_lang.specs.Laws.Fitting.{next_is_latest}
use Rattle.bayou_lang.proofs.laws.own_next_write_is_the_latest.Goals as goal

pub returns : goal.returns
returns c = next_is_latest
