-- what was fed so far gave this front
use Rattle.std.proofs.Common.{◌≡◌, ◌++◌, ℕ, List, Some, length}
use Rattle.bayou_peer.specs.Inner.Steps.{Gathers, IsNoItem}
use Rattle.bayou_wire.specs.Stream.{IsPartial}
use Rattle.bayou_peer.proofs.pulling.feed_pieces.Given as goal

abbrev pub invariant-loop-is_bad : goal.invariant-loop-is_bad
invariant-loop-is_bad l = record {
  went : (fed : List ℕ) × (l.bytes ≡ fed ++ l.rest)
      × ((held : List ℕ) → IsPartial held → l.fn.frames ≡ Some held → Gathers held fed l.front.items.items l.front.next l.is_bad l.frames);
  other : IsNoItem l.front.next;
}

abbrev pub decreases-loop-is_bad : goal.decreases-loop-is_bad
decreases-loop-is_bad l = length l.rest
