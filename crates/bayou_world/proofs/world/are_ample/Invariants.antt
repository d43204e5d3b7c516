-- none of those so far found no memory, and all are as they were
use Rattle.std.proofs.Common.{◌≡◌, ◌<◌, ℕ, get_or}
use Rattle.bayou_world.specs.declared.world_server.WorldServer.{WorldServer}
use Rattle.bayou_world.specs.Inner.WorldServers.{device_of}
use Rattle.bayou_world.proofs.world.are_ample.Given as goal

abbrev pub invariant-loop-at : goal.invariant-loop-at
invariant-loop-at l = record {
  same : l.servers.items ≡ l.fn.servers.items;
  ample : (place : ℕ) (d : WorldServer) → place < l.at → (device_of (get_or l.fn.servers.items place d)).lacks ≡ 0;
}
