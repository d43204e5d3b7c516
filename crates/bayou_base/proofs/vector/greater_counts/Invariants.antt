use Rattle.std.proofs.Common.{◌≡◌, ℕ, ◌<◌, ◌≤◌, length, get_or, max}
use Rattle.bayou_base.specs.declared.limits.TheConstants.{SERVERS}
use Rattle.bayou_base.proofs.vector.greater_counts.Given as goal

-- the servers so far have the greater count, and the others still the first
abbrev pub invariant-loop-server : goal.invariant-loop-server
invariant-loop-server l = record {
  one_each : length l.greater ≡ SERVERS;
  so_far : (k : ℕ) → k < l.server → get_or l.greater k 0 ≡ max (get_or l.counts k 0) (get_or l.others k 0);
  left : (k : ℕ) → l.server ≤ k → get_or l.greater k 0 ≡ get_or l.counts k 0;
}
