use Rattle.bayou_lang.specs.Laws.Fitting.{fitting_is_prefix_closed}
use Rattle.bayou_lang.proofs.laws.fitting_writes_are_prefix_closed.Goals as goal

pub returns : goal.returns
returns c = fitting_is_prefix_closed
