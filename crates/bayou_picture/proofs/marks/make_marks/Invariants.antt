-- the breaches stay as they are
use Rattle.std.proofs.Common.{◌≡◌}
use Rattle.bayou_picture.proofs.marks.make_marks.Given as goal

abbrev pub invariant-loop-at : goal.invariant-loop-at
invariant-loop-at l = l.marks.breaches ≡ l.initial.marks.breaches
