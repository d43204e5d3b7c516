-- How a server stores one Write more, which its callers don't see.
use Rattle.std.specs.Prelude.{◌≡◌, ◌<◌, ◌↔◌, [], ◌∷◌, ◌++◌, Option, None, Some, IsSome, Result, Ok, Err, length}
use Rattle.bayou_base.specs.declared.tag.Tag.{Tag}
use Rattle.bayou_device.specs.declared.device.Device.{Ghosts}
use Rattle.bayou_journal.specs.declared.fault.AppendFault.{AppendFault}
use Rattle.bayou_lang.specs.declared.write.Write.{Write}
use Rattle.bayou_lang.specs.Writes.{Fits, IsNextWrite}
use Rattle.bayou_lang.specs.Ranges.{IsWrite}
use Rattle.bayou_server.specs.declared.holding.Holding.{Holding}
use Rattle.bayou_server.specs.declared.storing.Stored.{Stored}
use Rattle.bayou_server.specs.declared.storing.Stored.TheVariants.{Held, InDoubt}
use Rattle.bayou_server.specs.Server.{Core, IsNewTag, IsUp, ServerState}
use Rattle.bayou_server.specs.Stored.{HasAdded, HasFailed, IsStored}

-- the server is up, and may hold the Write next: there is room for it, it fits what is held, and the server's own is its next
pub record MayBeStored (core : Core) (write : Write) : Type 0 where
  pub up : IsUp core
  pub room : length core.held < core.limit
  pub fits : Fits core.count core.held write
  pub own : write.wid.origin.index ≡ core.id → IsNextWrite core.held core.id write.program write

-- the tag may be that of the Write: there is one exactly where the Write is the server's own, and it is new
pub record MayBeTagged (core : Core) (tag : Option Tag) (write : Write) : Type 0 where
  pub own : IsSome tag ↔ (write.wid.origin.index ≡ core.id)
  pub new : IsNewTag core.tags tag

-- what comes of a Write that has a spelling, and of its tag, if it has one, and what the server then holds
abbrev pub Keeps : (old : Core) → Option Tag → Write → Stored → (new : Core) → Type 0
Keeps old tag write Held new = IsWrite write × (new ≡ record old { held = old.held ++ write ∷ []; tags = old.tags ++ tag ∷ [] })
Keeps old tag write InDoubt new = IsWrite write × (new ≡ record old { doubt = Some write; doubt_tag = tag })

-- and how the device stands then
abbrev pub StoresEntry : {D : Type 0} → Ghosts D → (old : ServerState D) → Stored → (new : ServerState D) → Type 0
StoresEntry d old Held new = HasAdded d old new
StoresEntry d old InDoubt new = HasFailed d old new

-- a device that had the journal of the Writes held, and nothing else, has that of those held then
abbrev pub StaysStored : {D : Type 0} → Ghosts D → (old : ServerState D) → Stored → (new : ServerState D) → Type 0
StaysStored d old Held new = IsStored d old → IsStored d new
StaysStored d old InDoubt new = Unit {0}

-- The Write is held after the others, with the tag that came.
pub record IsHeld (old : Holding) (write : Write) (new : Holding) : Type 0 where
  pub log : new.log ≡ record old.log { receipts = old.log.receipts ++ write ∷ []; room = new.log.room; waiting = new.log.waiting }
  pub tags : new.tags ≡ record old.tags { tags = old.tags.tags ++ old.tags.coming ∷ []; coming = None; room = new.tags.room }
  pub doubt : new.doubt ≡ old.doubt
  pub taking : new.taking ≡ old.taking
  pub together : new.together ≡ old.together

-- what comes of a Write once its entry was to be added: it is held after the others, or is in doubt
abbrev pub Settles : Holding → Write → Result (Unit {0}) AppendFault → Stored → (new : Holding) → Type 0
Settles old write (Ok done) Held new = IsHeld old write new
Settles old write (Err reason) InDoubt new = new ≡ record old { doubt = Some write }
Settles old write (Ok done) InDoubt new = ⊥
Settles old write (Err reason) Held new = ⊥
