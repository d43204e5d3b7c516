-- the bodies so far stand for the Writes so far
use Rattle.std.proofs.Common.{◌≤◌, drop, take}
use Rattle.bayou_server.specs.Server.{untagged}
use Rattle.bayou_server.specs.Stored.{Stores}
use Rattle.bayou_server.proofs.settling.stand_for_each.Given as goal

abbrev pub invariant-loop-at : goal.invariant-loop-at
invariant-loop-at l = record {
  so_far : Stores l.id.index (take l.at (drop l.place l.opened.bodies)) (untagged (take l.at l.writes.items));
  within : l.at ≤ l.many;
}
