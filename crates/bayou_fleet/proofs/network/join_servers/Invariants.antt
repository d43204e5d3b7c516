-- what the servers so far came to
use Rattle.std.proofs.Common.{take}
use Rattle.bayou_fleet.specs.Servers.{IsFleetSettled}
use Rattle.bayou_judge.specs.History.{lists_of}
use Rattle.bayou_fleet.proofs.network.join_servers.Given as goal

abbrev pub invariant-loop-mailbox : goal.invariant-loop-mailbox
invariant-loop-mailbox g l = IsFleetSettled (take l.mailbox-index l.mailboxes) (lists_of l.dumps.items) l.nodes.items
