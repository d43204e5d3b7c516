-- all whole requests so far were served, less than a frame is held back, and no turn read more than a piece
use Rattle.std.proofs.Common.{◌≡◌, ◌+◌, ◌*◌, ◌≤◌, ℕ, List, length}
use Rattle.std.specs.Io.KnownBytes.{Consumes}
use Rattle.bayou_base.specs.declared.limits.TheConstants.{READ_BYTES}
use Rattle.bayou_net.specs.Inner.Steps.{Waiting}
use Rattle.bayou_net.proofs.serving.serve_on.Given as goal

abbrev pub invariant-loop-frames : goal.invariant-loop-frames
invariant-loop-frames g l = record {
  went : (read : List ℕ) × Consumes (g.R.Read.remaining l.initial.channel.reader) (g.R.Read.remaining l.channel.reader) read
      × Waiting {S = g.row.S.Denot} (record { list = g.S.Replica.list; reads = g.S.Served.reads; writes = g.S.Served.writes; reopens = g.S.Served.reopens })
      l.initial.served l.served read l.frames l.number (g.W.Write.contents l.initial.channel.writer) (g.W.Write.contents l.channel.writer)
      × (length read + READ_BYTES * l.channel.turns_left ≤ READ_BYTES * l.initial.channel.turns_left);
  room : length l.piece ≡ READ_BYTES;
  fewer : l.channel.turns_left ≤ l.initial.channel.turns_left;
}

abbrev pub decreases-loop-frames : goal.decreases-loop-frames
decreases-loop-frames g l = l.channel.turns_left
