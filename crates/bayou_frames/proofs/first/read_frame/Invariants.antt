-- all that was read is held back, and is less than a frame
use Rattle.std.proofs.Common.{◌≡◌, ◌≤◌, ℕ, List, Some, length}
use Rattle.std.specs.Io.KnownBytes.{Consumes}
use Rattle.bayou_base.specs.declared.limits.TheConstants.{READ_BYTES}
use Rattle.bayou_wire.specs.Stream.{IsPartial}
use Rattle.bayou_frames.proofs.first.read_frame.Given as goal

abbrev pub invariant-loop-frames : goal.invariant-loop-frames
invariant-loop-frames g l = record {
  went : (read : List ℕ) × Consumes (g.R.Read.remaining l.initial.channel.reader) (g.R.Read.remaining l.channel.reader) read
      × IsPartial read × (l.frames ≡ Some read);
  room : length l.piece ≡ READ_BYTES;
  fewer : l.channel.turns_left ≤ l.initial.channel.turns_left;
  other : (l.channel.writer ≡ l.initial.channel.writer) × (l.channel.write_failed ≡ l.initial.channel.write_failed);
}

abbrev pub decreases-loop-frames : goal.decreases-loop-frames
decreases-loop-frames g l = l.channel.turns_left
