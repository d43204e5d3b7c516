use Rattle.std.proofs.Common.{rules}
use Rattle.bayou_server.proofs.taking.refusal.Goals as goal

-- src/taking.rt:28:29
pub returns-in-Err-Gap : goal.returns-in-Err-Gap
returns-in-Err-Gap c = search rules
