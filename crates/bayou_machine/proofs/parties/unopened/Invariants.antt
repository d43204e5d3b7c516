-- the sessions so far were not opened
use Rattle.bayou_machine.specs.Inner.Seated.{AreUnopened}
use Rattle.bayou_machine.proofs.parties.unopened.Given as goal

abbrev pub invariant-loop-index : goal.invariant-loop-index
invariant-loop-index l = AreUnopened l.index l.seats.items
