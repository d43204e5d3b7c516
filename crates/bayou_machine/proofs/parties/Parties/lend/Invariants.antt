-- what the servers so far hold is lent
use Rattle.std.proofs.Common.{◌≡◌, ◌<◌, ◌^◌, All, length, map, take}
use Rattle.bayou_judge.specs.History.{lent_lists}
use Rattle.bayou_machine.specs.ScriptServer.{held_by}
use Rattle.bayou_machine.proofs.parties.Parties.lend.Given as goal

abbrev pub invariant-loop-server : goal.invariant-loop-server
invariant-loop-server l = record {
  as_many : length l.lent.items ≡ l.server-index;
  few : All (λ dump. length dump.now < 2 ^ 63) l.lent.items;
  same : lent_lists l.lent.items ≡ map held_by (take l.server-index l.self.servers);
}
