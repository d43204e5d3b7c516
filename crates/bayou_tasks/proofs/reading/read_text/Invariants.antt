-- what came so far was read, and each turn took one from those left
use Rattle.std.proofs.Common.{◌≤◌, List, ℕ}
use Rattle.std.specs.Io.KnownBytes.{Consumes}
use Rattle.bayou_script.specs.Reading.{HasReadBy}
use Rattle.bayou_tasks.proofs.reading.read_text.Given as goal

abbrev pub invariant-loop-turn : goal.invariant-loop-turn
invariant-loop-turn g l = record {
  read : (bytes : List ℕ) × Consumes (g.R.Read.remaining l.initial.input.reader) (g.R.Read.remaining l.input.reader) bytes × HasReadBy g.F.Front.order g.F.Front.keeps l.text bytes;
  fewer : l.input.turns_left ≤ l.initial.input.turns_left;
}

abbrev pub decreases-loop-turn : goal.decreases-loop-turn
decreases-loop-turn g l = l.input.turns_left
