-- each server so far
use Rattle.std.proofs.Common.{◌≡◌, map, take}
use Rattle.bayou_connect.specs.declared.reach.Access.{Access}
use Rattle.bayou_connect.proofs.store.Store.servers.Given as goal

abbrev pub invariant-loop-access : goal.invariant-loop-access
invariant-loop-access l = l.servers.items ≡ map (λ (access : Access). access.place.id) (take l.access-index l.self.accesses.items)
