use Rattle.std.proofs.Common.{◌≡◌, ℕ, ◌<◌, ◌≤◌, None, slice_index_or, length}
use Rattle.bayou_base.specs.declared.limits.TheConstants.{SESSIONS}
use Rattle.bayou_judge.specs.Inner.Known.{IsKnown}
use Rattle.bayou_judge.proofs.evidence.Evidence.pass.Given as goal

abbrev pub invariant-loop-at : goal.invariant-loop-at
invariant-loop-at l = record {
  sized : length l.known ≡ SESSIONS;
  within : l.at ≤ length l.self.entries;
  known : (session : ℕ) → session < SESSIONS → IsKnown l.self.dumps l.self.entries session l.at (slice_index_or l.known session None);
}
