-- less than a reply was read, and what is no whole frame of it is held back
use Rattle.std.proofs.Common.{◌≡◌, ◌≤◌, ℕ, List, Some, length}
use Rattle.std.specs.Io.KnownBytes.{Consumes}
use Rattle.bayou_base.specs.declared.limits.TheConstants.{READ_BYTES}
use Rattle.bayou_client.specs.Replies.{Begins}
use Rattle.bayou_wire.specs.Stream.{IsPartial}
use Rattle.bayou_client.proofs.reading.read_reply.Given as goal

abbrev pub invariant-loop-writes : goal.invariant-loop-writes
invariant-loop-writes g l = record {
  went : (read rest : List ℕ) × Consumes (g.R.Read.remaining l.initial.channel.reader) (g.R.Read.remaining l.channel.reader) read
      × IsPartial rest × (l.frames ≡ Some rest) × Begins l.fn.many read l.writes.items rest;
  room : length l.piece ≡ READ_BYTES;
  fewer : l.channel.turns_left ≤ l.initial.channel.turns_left;
  other : (l.channel.writer ≡ l.initial.channel.writer) × (l.channel.write_failed ≡ l.initial.channel.write_failed);
}

abbrev pub decreases-loop-writes : goal.decreases-loop-writes
decreases-loop-writes g l = l.channel.turns_left
