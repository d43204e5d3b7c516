-- what is gone from the rest was written
use Rattle.std.proofs.Common.{◌≡◌, ◌≤◌, List, ℕ, ◌++◌}
use Rattle.std.specs.Io.KnownBytes.{Appends}
use Rattle.bayou_device.proofs.file.write_whole.Given as goal

abbrev pub invariant-loop-rest : goal.invariant-loop-rest
invariant-loop-rest g l = record {
  split : (front : List ℕ) × (l.initial.rest ≡ front ++ l.rest) × Appends (g.W.Write.contents l.initial.channel.writer) (g.W.Write.contents l.channel.writer) front;
  fewer : l.channel.turns_left ≤ l.initial.channel.turns_left;
}

-- each call takes a turn
abbrev pub decreases-loop-rest : goal.decreases-loop-rest
decreases-loop-rest g l = l.channel.turns_left
