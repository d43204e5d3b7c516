use Rattle.std.proofs.Common.{◌≡◌, ◌≤◌, ◌∷◌, All, List, length, map, slice_index, take, ℕ}
use Rattle.bayou_serve.specs.HeldDigests.{HasRead, digest_at}
use Rattle.bayou_serve.proofs.held_digests.HeldDigests.narrowed.Given as goal

abbrev pub invariant-loop-place : goal.invariant-loop-place
invariant-loop-place l =
    (l.place ≤ length l.fn.counts) × (l.narrow.low ≡ slice_index (l.fn.span.low ∷ l.fn.counts) l.place) × (l.narrow.high ≡ l.fn.span.high)
    × ((writes : List (List ℕ)) → HasRead l.self l.fn.origin writes
    → All (λ count. count ≤ length writes) (take l.place l.fn.counts) × (take l.place l.fn.told ≡ map (digest_at writes) (take l.place l.fn.counts)))
