-- what is gone from the rest was written
use Rattle.std.proofs.Common.{◌≡◌, ◌≤◌, ◌<◌, ℕ, List, ◌++◌, length}
use Rattle.std.specs.Io.KnownBytes.{Appends}
use Rattle.bayou_frames.proofs.framing.send.Given as goal

abbrev pub invariant-loop-rest : goal.invariant-loop-rest
invariant-loop-rest g l = record {
  split : (front : List ℕ) × (l.initial.rest ≡ front ++ l.rest) × Appends (g.W.Write.contents l.initial.channel.writer) (g.W.Write.contents l.channel.writer) front;
  fewer : l.channel.turns_left ≤ l.initial.channel.turns_left;
  spent : length l.rest < length l.initial.rest → l.channel.turns_left < l.initial.channel.turns_left;
  other : (l.channel.reader ≡ l.initial.channel.reader) × (l.channel.read_failed ≡ l.initial.channel.read_failed);
}

abbrev pub decreases-loop-rest : goal.decreases-loop-rest
decreases-loop-rest g l = l.channel.turns_left
