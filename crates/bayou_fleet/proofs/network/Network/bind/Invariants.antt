-- an address and a mailbox for each server so far
use Rattle.std.proofs.Common.{◌≡◌, map, take, vec_len}
use Rattle.bayou_node.specs.Books.{begun_of}
use Rattle.bayou_fleet.proofs.network.Network.bind.Given as goal

abbrev pub invariant-loop-at : goal.invariant-loop-at
invariant-loop-at g l = record {
  addresses : vec_len l.addresses ≡ l.at;
  number : vec_len l.mailboxes ≡ l.at;
  each : l.mailboxes.items ≡ map (λ server. begun_of server.value.core) (take l.at l.servers.items);
}
