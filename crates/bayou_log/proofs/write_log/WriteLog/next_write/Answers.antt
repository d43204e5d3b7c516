use Rattle.std.proofs.Common.{rules}
use Rattle.bayou_log.proofs.write_log.WriteLog.next_write.Goals as goal

pub returns : goal.returns
returns c = search rules
