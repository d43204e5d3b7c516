use Rattle.std.proofs.Common.{rules}
use Rattle.bayou_log.proofs.write_log.WriteLog.fits.Goals as goal

pub returns : goal.returns
returns c = search rules
