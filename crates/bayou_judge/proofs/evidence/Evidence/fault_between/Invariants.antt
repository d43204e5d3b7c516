use Rattle.std.proofs.Common.{ℕ, ◌<◌}
use Rattle.bayou_base.specs.declared.wid.Wid.{Wid}
use Rattle.bayou_judge.specs.Inner.Needs.{Fails}
use Rattle.bayou_judge.proofs.evidence.Evidence.fault_between.Given as goal

abbrev pub invariant-loop-server : goal.invariant-loop-server
invariant-loop-server l = (server : ℕ) (wid : Wid) → server < l.server → Fails l.self.dumps l.first l.second server wid → ⊥
