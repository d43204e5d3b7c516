-- the seats so far
use Rattle.bayou_world.specs.Inner.Beginning.{AreFirstSeats}
use Rattle.bayou_world.proofs.world.seats.Given as goal

abbrev pub invariant-loop-who : goal.invariant-loop-who
invariant-loop-who l = AreFirstSeats l.who l.sessions l.world_sessions.items
