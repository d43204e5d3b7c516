use Rattle.bayou_lang.specs.Laws.Fitting.{fitting_clocks_rise}
use Rattle.bayou_lang.proofs.laws.own_clocks_rise.Goals as goal

pub returns : goal.returns
returns c = fitting_clocks_rise
