-- what the bodies so far keep
use Rattle.std.proofs.Common.{take}
use Rattle.bayou_remember.specs.Memory.{Remembers}
use Rattle.bayou_remember.proofs.memory.kept_in.Given as goal

abbrev pub invariant-loop-at : goal.invariant-loop-at
invariant-loop-at l = Remembers l.run (take l.at l.opened.bodies) l.all.items
