use Rattle.std.proofs.Common.{take}
use Rattle.bayou_judge.specs.Inner.Needs.{IsKept}
use Rattle.bayou_judge.proofs.evidence.Evidence.breach_at.Given as goal

abbrev pub invariant-loop-place : goal.invariant-loop-place
invariant-loop-place l = IsKept l.self.dumps l.guarantee l.session.index (take l.place l.self.entries) l.second
