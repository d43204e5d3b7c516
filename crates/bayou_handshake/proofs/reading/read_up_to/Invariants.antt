-- what was read stands behind the text
use Rattle.std.proofs.Common.{◌≡◌, ◌≤◌, ◌++◌, ℕ, List, length}
use Rattle.std.specs.Io.KnownBytes.{Consumes}
use Rattle.bayou_handshake.proofs.reading.read_up_to.Given as goal

abbrev pub invariant-loop-piece : goal.invariant-loop-piece
invariant-loop-piece g l = record {
  went : (read : List ℕ) × Consumes (g.R.Read.remaining l.initial.channel.reader) (g.R.Read.remaining l.channel.reader) read × (l.text.items ≡ l.initial.text.items ++ read);
  room : length l.piece ≡ g.row.MOST;
  fewer : l.channel.turns_left ≤ l.initial.channel.turns_left;
  other : (l.channel.writer ≡ l.initial.channel.writer) × (l.channel.write_failed ≡ l.initial.channel.write_failed);
}

abbrev pub decreases-loop-piece : goal.decreases-loop-piece
decreases-loop-piece g l = l.channel.turns_left
