use Rattle.std.proofs.Common.{◌≡◌, ◌≤◌, ◌<◌, All, List, length, min, slice_index, ℕ}
use Rattle.bayou_base.specs.declared.limits.TheConstants.{MAX_WRITES, SERVERS}
use Rattle.bayou_base.specs.declared.server.ServerId.{ServerId}
use Rattle.bayou_serve.specs.HeldDigests.{HasRead, digest_at}
use Rattle.bayou_serve.proofs.held_digests.HeldDigests.held.Given as goal

abbrev pub invariant-loop-index : goal.invariant-loop-index
invariant-loop-index l =
    (length l.counts ≡ SERVERS) × (length l.each ≡ SERVERS) × All (λ count. count ≤ MAX_WRITES) l.counts
    × ((origin : ServerId) (writes : List (List ℕ)) → origin.index < l.index → HasRead l.self origin writes
    → (slice_index l.counts origin.index ≡ min (length writes) MAX_WRITES) × (slice_index l.each origin.index ≡ digest_at writes (min (length writes) MAX_WRITES)))
