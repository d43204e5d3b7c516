-- the servers so far were started
use Rattle.bayou_world.specs.Inner.Beginning.{AreStarted}
use Rattle.bayou_world.proofs.world.World.new.Given as goal

abbrev pub invariant-loop-index : goal.invariant-loop-index
invariant-loop-index l = AreStarted l.index l.count l.limit l.servers.items
