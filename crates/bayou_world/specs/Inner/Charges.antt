-- What calls of servers do to the fuses and to the counts of their devices: callers don't see it.
use Rattle.std.specs.Prelude.{◌≡◌, ℕ, ◌+◌, ◌<◌, ◌≤◌, ◌==◌, Bool, true, false, List, length, take, if◌then◌else◌}
use Rattle.std.specs.List.{slice_index_or}
use Rattle.bayou_device.specs.Device.{greatest_count}
use Rattle.bayou_device.specs.Memory.{Memory, waiting, with_fuse}
use Rattle.bayou_world.specs.declared.event.Event.{Event}
use Rattle.bayou_world.specs.declared.event.Event.TheVariants as events
use Rattle.bayou_world.specs.declared.world_server.WorldServer.{WorldServer}
use Rattle.bayou_world.specs.declared.reply.Reply.{Reply}
use Rattle.bayou_world.specs.declared.reply.Reply.TheVariants as replies
use Rattle.bayou_world.specs.Faults.{is_of, number_at, tells_fault, tells_fuse}
use Rattle.bayou_world.specs.Inner.WorldServers.{device_of}

abbrev pub one_if : Bool → ℕ
one_if true = 1
one_if false = 0

-- A call failed, or none did; a fuse was set, or none was. Each failure takes a fuse or is a lack of memory.
pub record Spends (fault fused : Bool) (old new : Memory) : Type 0 where
  pub lacks : old.lacks ≤ new.lacks
  pub failures : old.failures < greatest_count → new.failures ≡ old.failures + one_if fault
  pub fuses : new.failures + waiting new.fuse + old.lacks ≤ old.failures + waiting old.fuse + new.lacks + one_if fused

-- of the server at that place, and of no other
pub record AreSpent (place : ℕ) (fault fused : Bool) (old new : List WorldServer) : Type 0 where
  pub many : length new ≡ length old
  pub each : (other : ℕ) (d : WorldServer) → other < length old
      → Spends (if other == place then fault else false) (if other == place then fused else false) (device_of (slice_index_or old other d)) (device_of (slice_index_or new other d))

-- where a fuse was set, it waits on the device of that server: for that call, and for as much of its piece
abbrev pub Waits : (place call kept : ℕ) → Reply → (old new : List WorldServer) → Type 0
Waits place call kept reply old new = reply ≡ replies.Fused → (d : WorldServer) → device_of (slice_index_or new place d) ≡ with_fuse call kept (device_of (slice_index_or old place d))

-- the event sets the fuse that it names
abbrev pub SetsFuse : Event → Reply → (old new : List WorldServer) → Type 0
SetsFuse (events.Fuse server call kept) reply old new = Waits server.index call kept reply old new
SetsFuse (events.Read session server key) reply old new = Unit {0}
SetsFuse (events.Write session server program) reply old new = Unit {0}
SetsFuse (events.Again session) reply old new = Unit {0}
SetsFuse (events.Deliver session) reply old new = Unit {0}
SetsFuse (events.Lose session) reply old new = Unit {0}
SetsFuse (events.Offer server) reply old new = Unit {0}
SetsFuse (events.Collect server offer) reply old new = Unit {0}
SetsFuse (events.Take server item) reply old new = Unit {0}
SetsFuse (events.Reopen server) reply old new = Unit {0}
SetsFuse (events.Restart server) reply old new = Unit {0}
SetsFuse (events.File session) reply old new = Unit {0}

-- as an event and its reply tell
pub record SpendsAt (event : Event) (reply : Reply) (old new : List WorldServer) : Type 0 where
  pub many : length new ≡ length old
  pub each : (other : ℕ) (d : WorldServer) → other < length old
      → Spends (if is_of other event reply then tells_fault reply else false) (if is_of other event reply then tells_fuse reply else false)
      (device_of (slice_index_or old other d)) (device_of (slice_index_or new other d))
  pub fuse : SetsFuse event reply old new

-- its device has failed so often, which its fuses and the lacks of memory account for, with the one that waits
pub record IsCharged (failed fused : ℕ) (device : Memory) : Type 0 where
  pub failures : device.failures ≡ failed
  pub fuses : device.failures + waiting device.fuse ≤ fused + device.lacks

-- a device to which nothing happened: no call failed, and no fuse waits
abbrev pub IsUnused : Memory → Type 0
IsUnused device = IsCharged 0 0 device

-- so it is of each server after these events and replies, and at each time before the faults were no more than the fuses and what
-- lacks there are by now
pub record AreCharged (many : ℕ) (events : List Event) (replies : List Reply) (servers : List WorldServer) : Type 0 where
  pub as_many : length events ≡ length replies
  pub length_is : length servers ≡ many
  pub now : (place : ℕ) (d : WorldServer) → place < many → IsCharged (number_at tells_fault place events replies) (number_at tells_fuse place events replies) (device_of (slice_index_or servers place d))
  pub before : (place at : ℕ) (d : WorldServer) → place < many
      → number_at tells_fault place (take at events) (take at replies) ≤ number_at tells_fuse place (take at events) (take at replies) + (device_of (slice_index_or servers place d)).lacks

-- no append of theirs found no memory
abbrev pub AreAmple : List WorldServer → Type 0
AreAmple servers = (place : ℕ) (d : WorldServer) → place < length servers → (device_of (slice_index_or servers place d)).lacks ≡ 0
