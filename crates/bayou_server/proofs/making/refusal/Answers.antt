use Rattle.std.proofs.Common.{rules}
use Rattle.bayou_server.proofs.making.refusal.Goals as goal

pub returns-then-is_full : goal.returns-then-is_full
returns-then-is_full c = search rules
