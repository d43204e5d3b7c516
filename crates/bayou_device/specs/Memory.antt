-- A device in memory as its callers see it: this project's own.
use Rattle.std.specs.Prelude.{◌≡◌, ℕ, ◌+◌, ◌-◌, ◌<◌, ◌≤◌, ◌⊎◌, List, [], ◌++◌, length, min, take, Option, Some, None, nat_le, if◌then◌else◌}
use Rattle.bayou_device.specs.declared.fuse.Fuse.{Fuse}
use Rattle.bayou_device.specs.Device.{greatest_count, one_more}

-- what a read gives; how many bytes at its front were synced and not cut since; the fuse that waits, if any; how many calls
-- it was made, how many of them failed, and how many of those were appends that found no memory
pub record Memory : Type 0 where
  pub bytes : List ℕ
  pub synced : ℕ
  pub fuse : Option Fuse
  pub calls : ℕ
  pub failures : ℕ
  pub lacks : ℕ

-- a device that has these bytes, all of them synced: no fuse waits, and nothing has happened to it yet
abbrev pub device_with : List ℕ → Memory
device_with bytes = record { bytes = bytes; synced = length bytes; fuse = None; calls = 0; failures = 0; lacks = 0 }

-- a device that has no byte
abbrev pub empty_device : Memory
empty_device = record { bytes = []; synced = 0; fuse = None; calls = 0; failures = 0; lacks = 0 }

-- the bytes that were synced and not cut since
abbrev pub kept_bytes : Memory → List ℕ
kept_bytes device = take device.synced device.bytes

-- ---- what is done to it that is no device call

-- a fuse waits: the `calls`-th device call from now is to fail, and to add the first `kept` bytes of its piece
abbrev pub with_fuse : (calls kept : ℕ) → Memory → Memory
with_fuse calls kept device = record device { fuse = Some (record { calls = calls; kept = kept }) }

-- the first so many bytes are left
abbrev pub cut_to : ℕ → Memory → Memory
cut_to left device = record device { bytes = take left device.bytes; synced = min device.synced left }

-- the last so many bytes are gone, synced or not
abbrev pub shortened : ℕ → Memory → Memory
shortened count device = cut_to (length device.bytes - count) device

-- it crashed: after what was synced stands this tail
abbrev pub crashed : List ℕ → Memory → Memory
crashed tail device = record device { bytes = kept_bytes device ++ tail }

-- ---- device calls

-- only the front of the piece was added, if any of it
abbrev pub AddsFront : List ℕ → List ℕ → List ℕ → Type 0
AddsFront piece before after = (count : ℕ) × (after ≡ before ++ take count piece)

-- how much of its piece an append adds where the fuse goes off at the next call, if it does
abbrev pub front_due : Option Fuse → Option ℕ
front_due None = None
front_due (Some fuse) = if nat_le fuse.calls 1 then Some fuse.kept else None

-- the fuse after one call more: it goes off once
abbrev pub burnt : Option Fuse → Option Fuse
burnt None = None
burnt (Some fuse) = if nat_le fuse.calls 1 then None else Some (record fuse { calls = fuse.calls - 1 })

-- the count of failures after a call at which a fuse goes off or none does
abbrev pub counted : Option ℕ → ℕ → ℕ
counted None failures = failures
counted (Some front) failures = one_more failures

-- the device after one call more, at which the fuse may go off
abbrev pub after_call : Memory → Memory
after_call device = record device { fuse = burnt device.fuse; calls = one_more device.calls; failures = counted (front_due device.fuse) device.failures }

-- an append found no memory
abbrev pub lacking : Memory → Memory
lacking device = record device { lacks = one_more device.lacks }

-- a device whose append found no memory though no fuse went off: nothing is added, and that is a failure
abbrev pub after_lack : Memory → Memory
after_lack device = record (lacking (after_call device)) { failures = one_more device.failures }

-- an append failed as the fuse went off, and added the front that the fuse names, or nothing where memory was refused
abbrev pub FailsAtFuse : List ℕ → Memory → Memory → Type 0
FailsAtFuse piece before after = (front : ℕ) × (front_due before.fuse ≡ Some front)
    × ((after ≡ record (after_call before) { bytes = before.bytes ++ take front piece })
    ⊎ (after ≡ lacking (after_call before)))

-- ---- what any number of calls comes to

-- how many calls may pass before a fuse goes off, that one too; 0 where none waits
abbrev pub calls_left : Option Fuse → ℕ
calls_left None = 0
calls_left (Some fuse) = fuse.calls

-- how many fuses wait
abbrev pub waiting : Option Fuse → ℕ
waiting None = 0
waiting (Some fuse) = 1

-- each lack of memory is a failure, and no count is above the greatest
pub record AreCounts (calls failures lacks : ℕ) : Type 0 where
  pub calls_within : calls ≤ greatest_count
  pub failures_within : failures ≤ greatest_count
  pub each : lacks ≤ failures

-- What at most so many calls do to the fuse and to the counts: the count of calls rises by no more than that; no fuse comes to
-- wait; each failure takes a fuse or is a lack of memory; and a fuse that waits for more calls doesn't go off.
pub record LeadsTo (most : ℕ) (before after : Memory) : Type 0 where
  pub at_most : after.calls ≤ before.calls + most
  pub no_less : before.calls ≤ after.calls
  pub no_less_failures : before.failures ≤ after.failures
  pub no_less_lacks : before.lacks ≤ after.lacks
  pub no_fuse : waiting after.fuse ≤ waiting before.fuse
  pub one_each : after.failures + waiting after.fuse + before.lacks ≤ before.failures + waiting before.fuse + after.lacks
  pub in_time : most < calls_left before.fuse → after.failures + before.lacks ≤ before.failures + after.lacks
  pub counts_down : most < calls_left before.fuse → calls_left before.fuse ≤ calls_left after.fuse + most
