-- the lines so far stand at their places
use Rattle.std.proofs.Common.{All}
use Rattle.bayou_explain.specs.Located.{StandsIn, bytes_of}
use Rattle.bayou_explain.proofs.located.locate.Given as goal

abbrev pub invariant-loop-at : goal.invariant-loop-at
invariant-loop-at l = All (StandsIn (bytes_of l.lines.items)) l.list.items
