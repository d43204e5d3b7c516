use Rattle.std.proofs.Common.{rules}
use Rattle.bayou_judge.proofs.evidence.Evidence.breach_with.Goals as goal

-- src/locate.rt:150:13
pub returns-then-not-is_first_of : goal.returns-then-not-is_first_of
returns-then-not-is_first_of c = search rules
