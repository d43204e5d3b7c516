use Rattle.bayou_check.specs.Cut.{left_in}
use Rattle.bayou_check.proofs.check.lines_before.Given as goal

abbrev pub decreases-loop-line : goal.decreases-loop-line
decreases-loop-line l = left_in l.lines.rest
