use Rattle.std.proofs.Common.{ℕ, ◌<◌}
use Rattle.bayou_lang.specs.declared.write.Write.{Write}
use Rattle.bayou_judge.specs.Inner.Needs.{IsHeld, IsNeeded, Lacks}
use Rattle.bayou_judge.proofs.evidence.Evidence.is_content.Given as goal

abbrev pub invariant-loop-server : goal.invariant-loop-server
invariant-loop-server l = (server : ℕ) (write : Write) → server < l.server → IsHeld l.self.dumps write → IsNeeded l.need write
    → Lacks l.self.dumps l.home.index l.what server write → ⊥
