use Rattle.bayou_lang.specs.Laws.Fitting.{next_fits}
use Rattle.bayou_lang.proofs.laws.own_next_write_fits.Goals as goal

pub returns : goal.returns
returns c = next_fits
