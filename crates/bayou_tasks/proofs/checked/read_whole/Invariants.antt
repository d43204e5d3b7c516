-- what came so far was read, and each turn took one from those left
use Rattle.std.specs.Io.KnownBytes.{Consumes}
use Rattle.bayou_tasks.proofs.checked.read_whole.Given as goal

abbrev pub invariant-loop-turn : goal.invariant-loop-turn
invariant-loop-turn g l = Consumes (g.R.Read.remaining l.initial.input.reader) (g.R.Read.remaining l.input.reader) l.text.items

abbrev pub decreases-loop-turn : goal.decreases-loop-turn
decreases-loop-turn g l = l.input.turns_left
