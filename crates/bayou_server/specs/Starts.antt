-- How a server starts from what its journal has: this project's own.
use Rattle.std.specs.Prelude.{◌≡◌, ◌⊎◌, ℕ, List, ◌∷◌, ◌++◌, Option, None, All, length}
use Rattle.bayou_base.specs.declared.tag.Tag.{Tag}
use Rattle.bayou_device.specs.declared.device.Device.{Ghosts}
use Rattle.bayou_journal.specs.Opening.{HasOpened, HasRefused}
use Rattle.bayou_journal.specs.Versions.{Body}
use Rattle.bayou_journal.specs.declared.fault.OpenFault.TheVariants as opening
use Rattle.bayou_lang.specs.declared.write.Write.{Write}
use Rattle.bayou_lang.specs.Ranges.{IsWrite}
use Rattle.bayou_wire.specs.declared.record.Record.{Record}
use Rattle.bayou_server.specs.declared.fault.StartFault.{StartFault}
use Rattle.bayou_server.specs.declared.fault.StartFault.TheVariants.{Journal, BadRecord, Gap, LogFull, OutOfMemory}
use Rattle.bayou_server.specs.Faults.{open_fault}
use Rattle.bayou_server.specs.Server.{AreTags, Core, IsNewTag, IsSoundServer, MayFollow, MayHold, ServerState, records, records_of}
use Rattle.bayou_server.specs.Stored.{IsBodyOf, OpensWith, Stores}

-- A server starts: it is up, and holds what it may.
pub record Starts (id count limit : ℕ) (core : Core) : Type 0 where
  pub is : core ≡ record { id = id; count = count; limit = limit; held = core.held; tags = core.tags; doubt = None; doubt_tag = None }
  pub sound : IsSoundServer core

-- its journal was opened on the device, and has exactly the Writes that it holds, with their tags, in their order; so many bytes were
-- cut
pub record StartsOn {D : Type 0} (d : Ghosts D) (device : D) (server : ServerState D) (dropped : ℕ) : Type 0 where
  pub bodies : List Body
  pub stores : Stores server.core.id bodies (records_of server.core)
  pub opened : HasOpened d server.core.id device server.device (record { bodies = bodies; dropped = dropped }) server.last

-- the body stands for the record, and its tag isn't used
pub record IsNewRecord (id : ℕ) (tags : List (Option Tag)) (body : Body) (stored : Record) : Type 0 where
  pub is : IsBodyOf id body stored
  pub new : IsNewTag tags stored.tag

-- What is wrong with a body after those of the Writes held and their tags: it stands for no record, or for one whose tag is used; or
-- for one whose Write may not follow; or for one that may, and as many are held as may be.
abbrev pub RefusesBody : (id count limit : ℕ) → (held : List Write) → (tags : List (Option Tag)) → (body : Body) → StartFault → Type 0
RefusesBody id count limit held tags body (BadRecord at) = (at ≡ length held) × ((stored : Record) → ¬ IsNewRecord id tags body stored)
RefusesBody id count limit held tags body (Gap at) =
    (at ≡ length held) × ((stored : Record) × IsNewRecord id tags body stored × (¬ MayFollow id count held stored.write))
RefusesBody id count limit held tags body LogFull =
    (length held ≡ limit) × ((stored : Record) × IsNewRecord id tags body stored × MayFollow id count held stored.write)
RefusesBody id count limit held tags body OutOfMemory = ⊥
RefusesBody id count limit held tags body (Journal fault) = ⊥

-- the first entry that a server doesn't take, and why
pub record RefusesEntry (id count limit : ℕ) (bodies : List Body) (fault : StartFault) : Type 0 where
  pub held : List Write
  pub tags : List (Option Tag)
  pub front : List Body
  pub body : Body
  pub rest : List Body
  pub stores : Stores id front (records held tags)
  pub split : bodies ≡ front ++ body ∷ rest
  pub spelled : All IsWrite held
  pub holds : MayHold id count limit held
  pub tagged : AreTags id held tags
  pub why : RefusesBody id count limit held tags body fault

-- the journal was opened, and the server doesn't take what it found
pub record StopsAtEntry {D : Type 0} (d : Ghosts D) (id count limit : ℕ) (device left : D) (fault : StartFault) : Type 0 where
  pub bodies : List Body
  pub last : List ℕ
  pub opened : OpensWith d id device left bodies last
  pub refused : RefusesEntry id count limit bodies fault

-- A server doesn't start: the journal's refusal, or the first entry that it doesn't take; and what is left of the device.
abbrev pub FailsToStart : {D : Type 0} → Ghosts D → (id count limit : ℕ) → (device left : D) → StartFault → Type 0
FailsToStart d id count limit device left (Journal fault) = HasRefused d id device left (open_fault fault)
FailsToStart d id count limit device left (BadRecord at) = StopsAtEntry d id count limit device left (BadRecord at)
FailsToStart d id count limit device left (Gap at) = StopsAtEntry d id count limit device left (Gap at)
FailsToStart d id count limit device left LogFull = StopsAtEntry d id count limit device left LogFull
FailsToStart d id count limit device left OutOfMemory =
    HasRefused d id device left opening.OutOfMemory ⊎ ((bodies : List Body) × (last : List ℕ) × OpensWith d id device left bodies last)
