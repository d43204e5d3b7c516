-- the bytes so far are what was read
use Rattle.std.proofs.Common.{◌≡◌, ◌≤◌, length}
use Rattle.std.specs.Io.KnownBytes.{Consumes}
use Rattle.bayou_base.specs.declared.limits.TheConstants.{READ_BYTES}
use Rattle.bayou_device.proofs.file.read_whole.Given as goal

abbrev pub invariant-loop-bytes : goal.invariant-loop-bytes
invariant-loop-bytes g l = record {
  went : Consumes (g.R.Read.remaining l.initial.channel.reader) (g.R.Read.remaining l.channel.reader) l.bytes.items;
  room : length l.piece ≡ READ_BYTES;
  fewer : l.channel.turns_left ≤ l.initial.channel.turns_left;
}

-- each call takes a turn
abbrev pub decreases-loop-bytes : goal.decreases-loop-bytes
decreases-loop-bytes g l = l.channel.turns_left
