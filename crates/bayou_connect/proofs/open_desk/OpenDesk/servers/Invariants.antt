-- a server for each place so far
use Rattle.std.proofs.Common.{◌≡◌, map, take}
use Rattle.bayou_connect.specs.declared.open_desk.SeenServer.{SeenServer}
use Rattle.bayou_connect.specs.declared.reach.Access.{Access}
use Rattle.bayou_connect.proofs.open_desk.OpenDesk.servers.Given as goal

abbrev pub invariant-loop-access : goal.invariant-loop-access
invariant-loop-access l = map (λ (server : SeenServer). server.place) l.servers.items ≡ map (λ (access : Access). access.place) (take l.access-index l.self.desk.store.accesses.items)
