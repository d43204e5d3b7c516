use Rattle.bayou_lang.specs.Laws.Fitting.{covered-where_held}
use Rattle.bayou_lang.proofs.laws.fitting_writes_are_those_counted.Goals as goal

pub returns : goal.returns
returns c = covered-where_held
