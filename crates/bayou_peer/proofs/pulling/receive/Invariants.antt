-- all whole Items so far were taken, less than a frame is held back, and no turn read more than a piece
use Rattle.std.proofs.Common.{◌≡◌, ◌+◌, ◌*◌, ◌≤◌, ℕ, List, length}
use Rattle.std.specs.Io.KnownBytes.{Consumes}
use Rattle.bayou_peer.specs.Inner.Steps.{Standing}
use Rattle.bayou_peer.proofs.pulling.receive.Given as goal
use Rattle.bayou_peer.specs.declared.pulling.TheConstants.{PULL_TURN_BYTES}

abbrev pub invariant-loop-pulled : goal.invariant-loop-pulled
invariant-loop-pulled g l = record {
  went : (read : List ℕ) × Consumes (g.R.Read.remaining l.initial.channel.reader) (g.R.Read.remaining l.channel.reader) read
      × Standing {S = g.row.P.Denot} (record { list = g.P.Replica.list; takes = g.P.Replica.takes }) l.initial.replica l.replica read l.frames l.pulled
      × (length read + PULL_TURN_BYTES * l.channel.turns_left ≤ PULL_TURN_BYTES * l.initial.channel.turns_left);
  room : length l.piece ≡ PULL_TURN_BYTES;
  fewer : l.channel.turns_left ≤ l.initial.channel.turns_left;
  other : (l.channel.writer ≡ l.initial.channel.writer) × (l.channel.write_failed ≡ l.initial.channel.write_failed);
}

abbrev pub decreases-loop-pulled : goal.decreases-loop-pulled
decreases-loop-pulled g l = l.channel.turns_left
