use Rattle.std.proofs.Common.{◌≡◌, length}
use Rattle.std.specs.List.{AllByRecursion}
use Rattle.bayou_wire.specs.Spelling.{IsFrame}
use Rattle.bayou_wire.specs.Stream.{stream_of}
use Rattle.bayou_wire.proofs.front.take_frames.Given as goal

-- the frames so far, and the bytes behind them
abbrev pub invariant-loop-frames : goal.invariant-loop-frames
invariant-loop-frames l = record {
  whole : l.bytes ≡ stream_of l.frames.items l.rest;
  each : AllByRecursion IsFrame l.frames.items;
}

abbrev pub decreases-loop-frames : goal.decreases-loop-frames
decreases-loop-frames l = length l.rest
