-- What a device remembers of sessions: this project's own.
use Rattle.bayou_client.specs.Operating.{Asking}
use Rattle.std.specs.Prelude.{◌≡◌, ◌≢◌, ◌<◌, ℕ, Bool, true, false, List, ◌∷◌, ◌++◌, Option, None, Some, IfSome, Result, Ok, Err, length, slice_get}
use Rattle.std.specs.List.{AllByRecursion, AllZip}
use Rattle.bayou_base.specs.declared.limits.TheConstants.{MAX_BODY_BYTES, SESSIONS}
use Rattle.bayou_device.specs.Device.{one_more}
use Rattle.bayou_device.specs.declared.device.Device.{Ghosts}
use Rattle.bayou_journal.specs.Chain.{IsBody, entry, link}
use Rattle.bayou_journal.specs.Honest.{IsWhole}
use Rattle.bayou_journal.specs.Opened.{Found}
use Rattle.bayou_journal.specs.Opening.{FailsToAdd, HasOpened, HasRefused}
use Rattle.bayou_journal.specs.Versions.{Body}
use Rattle.bayou_remember.specs.Spelling.{SpellsKept, in_run}
use Rattle.bayou_remember.specs.declared.memory.KeepFault.{KeepFault}
use Rattle.bayou_remember.specs.declared.memory.KeepFault.TheVariants as keeping
use Rattle.bayou_remember.specs.declared.memory.RememberFault.{RememberFault}
use Rattle.bayou_remember.specs.declared.memory.RememberFault.TheVariants as remembering
use Rattle.bayou_remember.specs.declared.memory.TheConstants.{KEEPER}

-- A memory as its callers see it: its device; the digest that the next entry of its journal stands after; whether a call of the device has
-- failed; and how many entries there are.
pub record MemoryState (D : Type 0) : Type 0 where
  pub device : D
  pub last : List ℕ
  pub is_down : Bool
  pub entries : ℕ

-- the last of them that is of this session, if one is
abbrev pub IsLastOf : (session : ℕ) → List Asking → Option Asking → Type 0
IsLastOf session all None = AllByRecursion (λ kept. kept.session.id.index ≢ session) all
IsLastOf session all (Some last) =
    (before : List Asking) × (after : List Asking) × (all ≡ before ++ last ∷ after) × (last.session.id.index ≡ session)
    × AllByRecursion (λ kept. kept.session.id.index ≢ session) after

-- the body is what is kept, in this run where that has nothing to ask again
pub record IsKeptIn (run : ℕ) (body : Body) (kept : Asking) : Type 0 where
  pub spelled : SpellsKept body.bytes kept
  pub goes_on : in_run run kept ≡ kept

-- of each session, by its number, the last of them
pub record AreLast (all : List Asking) (last : List (Option Asking)) : Type 0 where
  pub one_each : length last ≡ SESSIONS
  pub is_last : (session : ℕ) → session < SESSIONS → IfSome (slice_get last session) (IsLastOf session all)

-- what these bodies keep, each in its place, and of each session the last of that
pub record Remembers (run : ℕ) (bodies : List Body) (told : List (Option Asking)) : Type 0 where
  pub all : List Asking
  pub each : AllZip (IsKeptIn run) bodies all
  pub last : AreLast all told

-- ---- an opening

-- The journal was opened: of each session the last that its bodies keep is given, and each body is an entry.
pub record HasRemembered {D : Type 0} (d : Ghosts D) (run : ℕ) (old : D) (new : MemoryState D) (told : List (Option Asking)) : Type 0 where
  pub found : Found
  pub opened : HasOpened d KEEPER old new.device found new.last
  pub remembers : Remembers run found.bodies told
  pub entries : new.entries ≡ length found.bodies
  pub up : new.is_down ≡ false

-- the body at this place keeps nothing
abbrev pub KeepsNothing : List Body → ℕ → Type 0
KeepsNothing bodies at = (body : Body) × (slice_get bodies at ≡ Some body) × ((kept : Asking) → ¬ SpellsKept body.bytes kept)

-- a journal was opened that has these bodies
abbrev pub OpensTo : {D : Type 0} → Ghosts D → (old new : D) → List Body → Type 0
OpensTo d old new bodies = (found : Found) × (last : List ℕ) × HasOpened d KEEPER old new found last × (found.bodies ≡ bodies)

-- When each fault of an opening comes, and what it leaves.
abbrev pub HasNotRemembered : {D : Type 0} → Ghosts D → (old new : D) → RememberFault → Type 0
HasNotRemembered d old new (remembering.Journal fault) = HasRefused d KEEPER old new fault
HasNotRemembered d old new (remembering.NotKept at) =
    (bodies : List Body) × OpensTo d old new bodies × KeepsNothing bodies at
HasNotRemembered d old new remembering.OutOfMemory = (bodies : List Body) × OpensTo d old new bodies

-- ---- an entry

-- the entry of what is kept stands after all else, and all of it is synced
pub record HasKept {D : Type 0} (d : Ghosts D) (old : MemoryState D) (kept : Asking) (new : MemoryState D) : Type 0 where
  pub was_up : old.is_down ≡ false
  pub body : List ℕ
  pub is_body : IsBody body
  pub spelled : SpellsKept body kept
  pub added : d.is_modelled → d.content new.device ≡ d.content old.device ++ entry old.last body
  pub synced : d.kept new.device ≡ d.content new.device
  pub others : new ≡ record old { device = new.device; last = link old.last body; entries = one_more old.entries }

-- what stands last in the journal is this
pub record EndsWith {D : Type 0} (memory : MemoryState D) (kept : Asking) : Type 0 where
  pub before : List ℕ
  pub body : List ℕ
  pub spelled : SpellsKept body kept
  pub ends : memory.last ≡ link before body
  pub up : memory.is_down ≡ false

-- A call of the device failed before, and nothing was done; or one failed as the entry was to be added.
pub record HasFailedToKeep {D : Type 0} (d : Ghosts D) (old : MemoryState D) (kept : Asking) (new : MemoryState D) : Type 0 where
  pub before : old.is_down ≡ true → new ≡ old
  pub others : new ≡ record old { device = new.device; is_down = true }
  pub body : List ℕ
  pub is_body : IsBody body
  pub spelled : SpellsKept body kept
  pub left : d.is_modelled → old.is_down ≡ false → FailsToAdd d.may_leave (entry old.last body) (d.content old.device) (d.content new.device)

-- how a memory stands after what was to be kept
abbrev pub Keeps : {D : Type 0} → Ghosts D → (old : MemoryState D) → Asking → Result (Unit {0}) KeepFault → (new : MemoryState D) → Type 0
Keeps d old kept (Ok done) new = HasKept d old kept new
Keeps d old kept (Err keeping.Device) new = HasFailedToKeep d old kept new
Keeps d old kept (Err keeping.TooLong) new = (new ≡ old) × (bytes : List ℕ) × SpellsKept bytes kept × (MAX_BODY_BYTES < length bytes)
Keeps d old kept (Err keeping.OutOfMemory) new = new ≡ old

-- ---- what is kept

-- the bodies keep these, each the one at its place
abbrev pub AreSpelled : List Body → List Asking → Type 0
AreSpelled bodies all = AllZip (λ body kept. SpellsKept body.bytes kept) bodies all

-- the device has these and nothing else, one after another, and all of it is synced
abbrev pub HasAll : {D : Type 0} → Ghosts D → MemoryState D → List Asking → Type 0
HasAll d memory all = (bodies : List Body) × AreSpelled bodies all × IsWhole d KEEPER bodies memory.last memory.device
