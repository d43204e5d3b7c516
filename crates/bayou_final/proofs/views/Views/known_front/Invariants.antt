use Rattle.std.proofs.Common.{◌≡◌, ◌<◌, ◌≤◌, ℕ, List, Some, All, length, slice_get, take}
use Rattle.bayou_final.specs.Known.{IsKnown}
use Rattle.bayou_final.specs.Views.{AreHeard}
use Rattle.bayou_final.proofs.views.Views.known_front.Given as goal

-- the Writes so far are known
abbrev pub invariant-loop-at : goal.invariant-loop-at
invariant-loop-at l = record {
  within : l.at ≤ length l.writes;
  known : (views : ℕ → List ℕ) → AreHeard l.count l.self views → All (λ write. IsKnown l.count views write.wid) (take l.at l.writes);
  heard : 0 < l.at → (place : ℕ) → place < l.count → (view : List ℕ) × (slice_get l.self place ≡ Some (Some view));
}
