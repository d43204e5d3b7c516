-- under no number so far the two differ
use Rattle.std.proofs.Common.{ℕ, ◌≤◌}
use Rattle.bayou_restore.specs.Differing.{Agree}
use Rattle.bayou_restore.proofs.differing.first_difference.Given as goal

abbrev pub invariant-loop-behind : goal.invariant-loop-behind
invariant-loop-behind l = (smaller : ℕ) → smaller ≤ l.behind → Agree l.one.writes l.other.writes l.origin.index smaller
