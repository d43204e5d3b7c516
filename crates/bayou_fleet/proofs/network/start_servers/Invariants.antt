-- a thread for each server so far
use Rattle.std.proofs.Common.{◌≡◌, ◌+◌, length}
use Rattle.bayou_fleet.proofs.network.start_servers.Given as goal

abbrev pub invariant-loop-server : goal.invariant-loop-server
invariant-loop-server g l = length l.threads.items + length l.server-iterator.rest.items ≡ length l.fn.servers.items
