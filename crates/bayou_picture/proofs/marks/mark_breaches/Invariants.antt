-- the breaches so far are marked
use Rattle.std.proofs.Common.{◌≡◌, take}
use Rattle.bayou_picture.specs.Marks.{explained_of}
use Rattle.bayou_picture.proofs.marks.mark_breaches.Given as goal

abbrev pub invariant-loop-explained : goal.invariant-loop-explained
invariant-loop-explained l = explained_of l.breaches.items ≡ take l.explained-index l.explained-items
