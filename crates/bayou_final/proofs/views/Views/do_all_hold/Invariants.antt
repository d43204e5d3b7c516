use Rattle.std.proofs.Common.{◌≡◌, ◌<◌, ℕ, List, Some, slice_get}
use Rattle.bayou_base.specs.Vector.{Dominates}
use Rattle.bayou_final.proofs.views.Views.do_all_hold.Given as goal

-- the servers so far hold all of it
abbrev pub invariant-loop-index : goal.invariant-loop-index
invariant-loop-index l = (place : ℕ) → place < l.index → (view : List ℕ) × (slice_get l.self place ≡ Some (Some view)) × Dominates view l.vector
