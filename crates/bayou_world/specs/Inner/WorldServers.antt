-- A server of a run, be it running or stopped, and what its device has: callers don't see it.
use Rattle.std.specs.Prelude.{◌≡◌, ℕ, Bool, true, false, List, [], None, Result, Ok, Err, length}
use Rattle.bayou_device.specs.Memory.{Memory}
use Rattle.bayou_device.specs.MemoryDevice.{memory_device}
use Rattle.bayou_lang.specs.declared.write.Write.{Write}
use Rattle.bayou_server.specs.declared.fault.StartFault.{StartFault}
use Rattle.bayou_server.specs.Honest.{AreHonest, IsHonestServerDevice, IsHonestRefusal, IsHonestServer}
use Rattle.bayou_server.specs.Server.{Core, IsSoundServer, ServerState, record_in_doubt, records_of}
use Rattle.bayou_world.specs.declared.world_server.WorldServer.{WorldServer}
use Rattle.bayou_world.specs.declared.world_server.WorldServer.TheVariants.{Running, Stopped}

-- its last start was refused
abbrev pub is_stopped : WorldServer → Bool
is_stopped (Running server) = false
is_stopped (Stopped role left) = true

abbrev pub device_of : WorldServer → Memory
device_of (Running server) = server.device
device_of (Stopped role left) = left.device

-- which server it is, what it holds, and what is in doubt
abbrev pub core_of : WorldServer → Core
core_of (Running server) = server.core
core_of (Stopped role left) = record {
  id = role.id.index;
  count = role.count;
  limit = role.limit;
  held = left.last.held;
  tags = left.last.tags;
  doubt = left.last.doubt;
  doubt_tag = left.last.doubt_tag;
}

abbrev pub held_by : WorldServer → List Write
held_by world_server = (core_of world_server).held

-- a server over an honest device, after whose Write in doubt no other is
pub record IsHonestAlone (server : ServerState Memory) : Type 0 where
  pub honest : IsHonestServer memory_device server
  pub alone : server.taking ≡ []

-- a server that is honest stays so
abbrev pub StaysHonest : ServerState Memory → ServerState Memory → Type 0
StaysHonest old new = IsHonestAlone old → IsHonestAlone new

-- what is left of a server: what it held is sound, and the device is honest for that
pub record IsLeftOf (core : Core) (device : Memory) : Type 0 where
  pub sound : IsSoundServer core
  pub honest : IsHonestServerDevice memory_device core.id (records_of core) (record_in_doubt core) device

-- a server that runs is over an honest device, a whole one while it is up
abbrev pub IsKept : WorldServer → Type 0
IsKept (Running server) = IsHonestAlone server
IsKept (Stopped role left) = IsLeftOf (core_of (Stopped role left)) left.device

-- it runs, is up, and holds no Write
pub record IsFresh (count limit place : ℕ) (world_server : WorldServer) : Type 0 where
  pub runs : is_stopped world_server ≡ false
  pub core : core_of world_server ≡ record { id = place; count = count; limit = limit; held = []; tags = []; doubt = None; doubt_tag = None }
  pub kept : IsKept world_server

-- What comes of a start on the device of a server: what was held, or that and the Write in doubt, with their tags, or a refusal.
abbrev pub Starts : (old : WorldServer) → Result ℕ StartFault → (new : WorldServer) → Type 0
Starts old (Ok holds) new = (is_stopped new ≡ false) × (holds ≡ length (core_of new).held) × (core_of new ≡ record (core_of old) { held = (core_of new).held; tags = (core_of new).tags; doubt = None; doubt_tag = None })
    × IsSoundServer (core_of new) × AreHonest (records_of (core_of old)) (record_in_doubt (core_of old)) (records_of (core_of new))
Starts old (Err fault) new = (is_stopped new ≡ true) × IsHonestRefusal fault × (core_of new ≡ core_of old)
