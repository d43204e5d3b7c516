use Rattle.std.proofs.Common.{◌≡◌, ◌<◌, ℕ, List, Some, slice_get}
use Rattle.bayou_base.specs.Vector.{Covers}
use Rattle.bayou_final.proofs.views.Views.is_known.Given as goal

-- the servers so far hold it
abbrev pub invariant-loop-index : goal.invariant-loop-index
invariant-loop-index l = (place : ℕ) → place < l.index → (view : List ℕ) × (slice_get l.self place ≡ Some (Some view)) × Covers view l.wid.origin.index l.wid.seq
