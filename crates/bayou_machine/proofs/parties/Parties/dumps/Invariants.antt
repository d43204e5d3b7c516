-- what the servers so far hold was copied
use Rattle.std.proofs.Common.{◌≡◌, map, take}
use Rattle.bayou_judge.specs.History.{lists_of}
use Rattle.bayou_machine.specs.ScriptServer.{held_by}
use Rattle.bayou_machine.proofs.parties.Parties.dumps.Given as goal

abbrev pub invariant-loop-server : goal.invariant-loop-server
invariant-loop-server l = lists_of l.dumps.items ≡ map held_by (take l.server-index l.self.servers)
