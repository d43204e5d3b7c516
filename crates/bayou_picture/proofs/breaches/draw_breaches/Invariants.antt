-- the breaches so far are drawn
use Rattle.std.proofs.Common.{◌≡◌, take}
use Rattle.bayou_picture.specs.Marks.{breaches_drawn, breaches_marked}
use Rattle.bayou_picture.proofs.breaches.draw_breaches.Given as goal

abbrev pub invariant-loop-at : goal.invariant-loop-at
invariant-loop-at l = breaches_drawn l.drawn.items ≡ breaches_marked (take l.at l.breaches)
