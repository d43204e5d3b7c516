-- the frames so far are the Items of the Writes, and the others stand behind them
use Rattle.std.proofs.Common.{◌≡◌, ◌++◌}
use Rattle.bayou_frames.specs.Spelled.{items_of}
use Rattle.bayou_peer.proofs.pulling.front_of.Given as goal

abbrev pub invariant-loop-frame : goal.invariant-loop-frame
invariant-loop-frame l = record {
  so_far : l.fn.frames.items ≡ items_of l.items.items ++ l.frame-iterator.rest.items;
}
