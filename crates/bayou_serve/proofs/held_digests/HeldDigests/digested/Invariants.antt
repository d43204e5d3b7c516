use Rattle.std.proofs.Common.{◌≡◌, ◌≤◌, ℕ, All, List, length, map, take}
use Rattle.bayou_serve.specs.HeldDigests.{HasRead, digest_at}
use Rattle.bayou_serve.proofs.held_digests.HeldDigests.digested.Given as goal

abbrev pub invariant-loop-count : goal.invariant-loop-count
invariant-loop-count l =
    (length l.digests.items ≡ l.count-index)
    × ((writes : List (List ℕ)) → HasRead l.self l.inquiry.origin writes
    → All (λ count. count ≤ length writes) (take l.count-index l.inquiry.counts.items) × (l.digests.items ≡ map (digest_at writes) (take l.count-index l.inquiry.counts.items)))
