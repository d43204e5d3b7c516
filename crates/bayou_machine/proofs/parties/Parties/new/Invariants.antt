-- the servers so far were started
use Rattle.bayou_machine.proofs.Begun.{BegunSoFar}
use Rattle.bayou_machine.proofs.parties.Parties.new.Given as goal

abbrev pub invariant-loop-index : goal.invariant-loop-index
invariant-loop-index l = BegunSoFar l.plan.count l.plan.limit l.index l.servers.items
