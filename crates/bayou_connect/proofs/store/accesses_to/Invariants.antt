-- a server for each place so far
use Rattle.std.proofs.Common.{◌≡◌, map, take}
use Rattle.bayou_connect.specs.declared.reach.Access.{Access}
use Rattle.bayou_connect.proofs.store.accesses_to.Given as goal

abbrev pub invariant-loop-place : goal.invariant-loop-place
invariant-loop-place l = map (λ (access : Access). access.place) l.accesses.items ≡ take l.place-index l.places
