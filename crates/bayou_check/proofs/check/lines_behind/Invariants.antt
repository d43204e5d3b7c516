-- what is told is counted
use Rattle.std.proofs.Common.{◌≤◌, vec_len}
use Rattle.bayou_check.specs.Cut.{left_in}
use Rattle.bayou_check.specs.declared.check.TheConstants.{MAX_TOLD}
use Rattle.bayou_check.proofs.check.lines_behind.Given as goal

abbrev pub invariant-loop-line : goal.invariant-loop-line
invariant-loop-line l = (vec_len l.others ≤ l.faults) × (vec_len l.others ≤ MAX_TOLD)

abbrev pub decreases-loop-line : goal.decreases-loop-line
decreases-loop-line l = left_in l.lines.rest
