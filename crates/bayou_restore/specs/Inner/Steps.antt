-- How a server stands between two of its own Writes that are made again.
use Rattle.std.specs.Prelude.{◌≡◌, ◌≤◌, ℕ, List, [], ◌∷◌, ◌++◌, Option, Some, Result, Ok, Err, All, Contains, length, slice_index}
use Rattle.bayou_base.specs.declared.tag.Tag.{Tag}
use Rattle.bayou_base.specs.Vector.{Covers, Dominates}
use Rattle.bayou_lang.specs.declared.write.Write.{Write}
use Rattle.bayou_lang.specs.Writes.{AreFitting, count_of, counted}
use Rattle.bayou_restore.specs.Gathering.{Gathering}
use Rattle.bayou_restore.specs.Restoring.{IsOwnAmong, own_of}
use Rattle.bayou_restore.specs.declared.fault.RestoreFault.{RestoreFault}
use Rattle.bayou_restore.specs.declared.fault.RestoreFault.TheVariants.{NotEmpty, Misfit, LogFull, Device, OutOfMemory}
use Rattle.bayou_server.specs.declared.fault.TakeFault.{TakeFault}
use Rattle.bayou_server.specs.declared.fault.TakeFault.TheVariants as taking
use Rattle.bayou_server.specs.declared.fault.WriteFault.{WriteFault}
use Rattle.bayou_server.specs.declared.fault.WriteFault.TheVariants as writing
use Rattle.bayou_server.specs.Server.{Core, IsDown, IsUp, own_count}

-- what it is called that a Write wasn't taken which the own Write of this number counts
abbrev pub untaken_as : TakeFault → ℕ → RestoreFault
untaken_as taking.Journal number = Device
untaken_as taking.LogFull number = LogFull
untaken_as taking.OutOfMemory number = OutOfMemory
untaken_as taking.Conflict number = Misfit number
untaken_as taking.Down number = Misfit number
untaken_as taking.OwnLost number = Misfit number
untaken_as taking.Gap number = Misfit number
untaken_as taking.BadStamp number = Misfit number

-- and that the own Write of this number wasn't made
abbrev pub unmade_as : WriteFault → ℕ → RestoreFault
unmade_as writing.Journal number = Device
unmade_as writing.LogFull number = LogFull
unmade_as writing.OutOfMemory number = OutOfMemory
unmade_as writing.TagUsed number = Misfit number
unmade_as writing.Down number = Misfit number
unmade_as (writing.Behind vector) number = Misfit number

-- each tag is of a number up to this one
abbrev pub AreTagsUpTo : ℕ → List (Option Tag) → Type 0
AreTagsUpTo number tags = All (λ given. (tag : Tag) → given ≡ Some tag → tag.number ≤ number) tags

-- The server is up, one of as many as the list is of, and holds what is of the list; its tags are those of its own Writes, up to the last.
pub record Stands (gathering : Gathering) (core : Core) : Type 0 where
  pub up : IsUp core
  pub count : core.count ≡ gathering.count
  pub others : All (λ write. Contains gathering.writes write) core.held
  pub fitting : AreFitting gathering.count gathering.writes
  pub tags : AreTagsUpTo (own_count core) core.tags

-- the server is the same one
pub record IsSameServer (old new : Core) : Type 0 where
  pub id : new.id ≡ old.id
  pub count : new.count ≡ old.count
  pub limit : new.limit ≡ old.limit

-- The Write is an own one of the list, and the next; it counts all that is held, and with each Write all that this counts.
pub record MayComeNext (writes : List Write) (core : Core) (own : Write) : Type 0 where
  pub among : IsOwnAmong core.id writes own
  pub next : slice_index own.deps core.id ≡ own_count core
  pub reaches : Dominates own.deps (count_of core.held)
  pub closed : (other : Write) → Contains writes other → Covers own.deps other.wid.origin.index other.wid.seq → Dominates own.deps other.deps

-- What the own Write counts was taken, or not. What may come next is no misfit, and then just that is held.
abbrev pub TakesBefore : Gathering → (old : Core) → (own : Write) → Result (Unit {0}) RestoreFault → (new : Core) → Type 0
TakesBefore gathering old own (Ok _) new = Stands gathering new × (own_of old.id new.held ≡ own_of old.id old.held) × (own_count new ≡ own_count old)
    × (MayComeNext gathering.writes old own → count_of new.held ≡ own.deps)
TakesBefore gathering old own (Err (Misfit number)) new = ¬ MayComeNext gathering.writes old own
TakesBefore gathering old own (Err NotEmpty) new = ⊥
TakesBefore gathering old own (Err LogFull) new = length new.held ≡ new.limit
TakesBefore gathering old own (Err Device) new = IsDown new
TakesBefore gathering old own (Err OutOfMemory) new = Unit {0}

-- The own Write was made again, or not. It is no misfit where just what it counts is held.
abbrev pub MakesAgain : Gathering → (old : Core) → (own : Write) → Result (Unit {0}) RestoreFault → (new : Core) → Type 0
MakesAgain gathering old own (Ok _) new = Stands gathering new × (new.held ≡ old.held ++ own ∷ []) × (count_of new.held ≡ counted own.deps own.wid)
MakesAgain gathering old own (Err (Misfit number)) new = ¬ (count_of old.held ≡ own.deps)
MakesAgain gathering old own (Err NotEmpty) new = ⊥
MakesAgain gathering old own (Err LogFull) new = length new.held ≡ new.limit
MakesAgain gathering old own (Err Device) new = IsDown new
MakesAgain gathering old own (Err OutOfMemory) new = Unit {0}
