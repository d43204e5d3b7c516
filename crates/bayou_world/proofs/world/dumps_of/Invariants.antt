-- the dumps so far
use Rattle.std.proofs.Common.{◌≡◌, map, take}
use Rattle.bayou_world.specs.Inner.WorldServers.{held_by}
use Rattle.bayou_world.proofs.world.dumps_of.Given as goal

abbrev pub invariant-loop-server : goal.invariant-loop-server
invariant-loop-server l = map (λ (dump : _). dump.items) l.dumps.items ≡ map held_by (take l.server-index l.servers)
