-- nothing was read so far, and no call failed
use Rattle.std.proofs.Common.{◌≡◌, ◌≤◌, length}
use Rattle.std.specs.Io.KnownBytes.{Keeps}
use Rattle.bayou_frames.proofs.framing.read_piece.Given as goal

abbrev pub invariant-loop-count : goal.invariant-loop-count
invariant-loop-count g l = record {
  kept : Keeps (g.R.Read.remaining l.initial.channel.reader) (g.R.Read.remaining l.channel.reader);
  size : length l.piece ≡ length l.initial.piece;
  fewer : l.channel.turns_left ≤ l.initial.channel.turns_left;
  other : (l.channel.writer ≡ l.initial.channel.writer) × (l.channel.write_failed ≡ l.initial.channel.write_failed);
}

abbrev pub decreases-loop-count : goal.decreases-loop-count
decreases-loop-count g l = l.channel.turns_left
