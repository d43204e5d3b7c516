-- of each server so far as many are counted
use Rattle.std.proofs.Common.{ℕ, ◌≡◌, ◌<◌}
use Rattle.std.specs.List.{slice_index}
use Rattle.bayou_explain.proofs.counted.differing.Given as goal

abbrev pub invariant-loop-server : goal.invariant-loop-server
invariant-loop-server l = (server : ℕ) → server < l.server → slice_index l.vector server ≡ slice_index l.counts server
