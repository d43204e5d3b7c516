use Rattle.std.proofs.Common.{◌≡◌, ◌<◌, ℕ, None, Some, length, slice_get, slice_index_or}
use Rattle.bayou_base.specs.declared.limits.TheConstants.{SERVERS}
use Rattle.bayou_final.specs.Views.{either, within}
use Rattle.bayou_final.proofs.views.Views.chosen.Given as goal

-- the servers so far have the view that is chosen
abbrev pub invariant-loop-index : goal.invariant-loop-index
invariant-loop-index l = record {
  all : length l.chosen ≡ SERVERS;
  so_far : (place : ℕ) → place < l.index
      → slice_get l.chosen place ≡ Some (either (within l.vector place (slice_index_or l.self place None)) (within l.vector place (slice_index_or l.others place None)));
}
