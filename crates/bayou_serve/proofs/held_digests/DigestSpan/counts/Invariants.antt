use Rattle.std.proofs.Common.{◌≡◌, ◌≤◌, ◌<◌, ◌⊎◌, ◌-◌, ℕ, All, length}
use Rattle.bayou_wire.specs.declared.layout.TheConstants.{DIGESTS_AT_ONCE}
use Rattle.bayou_serve.proofs.held_digests.DigestSpan.counts.Given as goal

abbrev pub invariant-loop-self : goal.invariant-loop-self
invariant-loop-self l =
    (l.self.low ≤ l.count) × ((l.count ≡ l.self.low) ⊎ (0 < length l.counts.items)) × All (λ count. (l.self.low < count) × (count < l.self.high)) l.counts.items

abbrev pub decreases-loop-self : goal.decreases-loop-self
decreases-loop-self l = DIGESTS_AT_ONCE - length l.counts.items
