-- What a journal stores of the Writes of a server and of their tags, and how the device stands after each call: this project's own.
use Rattle.std.specs.Prelude.{◌≡◌, ◌==◌, ◌⊎◌, ◌↔◌, ℕ, List, [], ◌∷◌, ◌++◌, Some, IsSome, Result, Ok, Err, nat_lt, if◌then◌else◌}
use Rattle.std.specs.List.{AllZip}
use Rattle.bayou_device.specs.Device.{Rose}
use Rattle.bayou_device.specs.declared.device.Device.{Ghosts}
use Rattle.bayou_journal.specs.Chain.{entry, link}
use Rattle.bayou_journal.specs.Honest.{HasJournal, added_body}
use Rattle.bayou_journal.specs.Opening.{FailsToAdd, HasOpened, HasRefused}
use Rattle.bayou_journal.specs.Opening as journals
use Rattle.bayou_journal.specs.Versions.{Body}
use Rattle.bayou_journal.specs.declared.format.TheConstants.{FIRST_VERSION, WIDE_VERSION}
use Rattle.bayou_journal.specs.declared.fault.OpenFault.TheVariants as opening
use Rattle.bayou_lang.specs.declared.write.Write.{Write}
use Rattle.bayou_wire.specs.Records.{SpellsRecord}
use Rattle.bayou_wire.specs.declared.record.Form.{Form}
use Rattle.bayou_wire.specs.declared.record.Form.TheVariants.{Plain, Tagged, Wide}
use Rattle.bayou_wire.specs.declared.record.Record.{Record}
use Rattle.bayou_server.specs.declared.answer.Reopened.{Reopened}
use Rattle.bayou_server.specs.declared.answer.Took.{Took}
use Rattle.bayou_server.specs.declared.answer.Took.TheVariants.{New, Had}
use Rattle.bayou_server.specs.declared.answer.Written.{Written}
use Rattle.bayou_server.specs.declared.answer.Written.TheVariants as written
use Rattle.bayou_server.specs.declared.fault.ReopenFault.{ReopenFault}
use Rattle.bayou_server.specs.declared.fault.ReopenFault.TheVariants as reopening
use Rattle.bayou_server.specs.declared.fault.TakeFault.{TakeFault}
use Rattle.bayou_server.specs.declared.fault.TakeFault.TheVariants as taking
use Rattle.bayou_server.specs.declared.fault.WriteFault.{WriteFault}
use Rattle.bayou_server.specs.declared.fault.WriteFault.TheVariants.{TagUsed, Down, Behind, LogFull, OutOfMemory, Journal}
use Rattle.bayou_server.specs.Faults.{open_fault}
use Rattle.bayou_server.specs.Server.{Core, ServerState, record_in_doubt, records, records_of, untagged}

-- The form of the records in a journal of this version: in the first they have no tags, and before the wide version vectors have fewer
-- counts.
abbrev pub form_of : (version : ℕ) → Form
form_of version = if version == FIRST_VERSION then Plain else (if nat_lt version WIDE_VERSION then Tagged else Wide)

-- in a form that has tags a Write has one exactly where it is the server's own
abbrev pub IsTagged : (server : ℕ) → Form → Record → Type 0
IsTagged server Plain stored = Unit {0}
IsTagged server Tagged stored = IsSome stored.tag ↔ (stored.write.wid.origin.index ≡ server)
IsTagged server Wide stored = IsSome stored.tag ↔ (stored.write.wid.origin.index ≡ server)

-- the body of the server's journal stands for the record: it is its one spelling, in the form of its version
pub record IsBodyOf (server : ℕ) (body : Body) (stored : Record) : Type 0 where
  pub spelled : SpellsRecord (form_of body.version) body.bytes stored
  pub tagged : IsTagged server (form_of body.version) stored

-- the bodies of its journal stand for these records, each for the one at its place
abbrev pub Stores : (server : ℕ) → List Body → List Record → Type 0
Stores server bodies stored = AllZip (IsBodyOf server) bodies stored

-- the device has the server's journal, with the Writes held, with their tags, and nothing else
abbrev pub IsStored : {D : Type 0} → Ghosts D → ServerState D → Type 0
IsStored d server = (bodies : List Body) × Stores server.core.id bodies (records_of server.core) × HasJournal server.core.id bodies server.last (d.content server.device)

-- ---- a Write

-- the bytes are the entry, after that digest, of a body that stands for the record
pub record IsEntryOf (server : ℕ) (last : List ℕ) (stored : Record) (added : List ℕ) : Type 0 where
  pub body : List ℕ
  pub stands : IsBodyOf server (added_body body) stored
  pub is : added ≡ entry last body

-- neither the device nor the digest has changed
pub record IsUntouched {D : Type 0} (old new : ServerState D) : Type 0 where
  pub device : new.device ≡ old.device
  pub last : new.last ≡ old.last

-- the entry of the Write that is held now, with its tag, was added, and all was synced
pub record HasAdded {D : Type 0} (d : Ghosts D) (old new : ServerState D) : Type 0 where
  pub stored : Record
  pub held : new.core.held ≡ old.core.held ++ stored.write ∷ []
  pub tags : new.core.tags ≡ old.core.tags ++ stored.tag ∷ []
  pub added : List ℕ
  pub entry_of : IsEntryOf old.core.id old.last stored added
  pub ends : new.last ≡ link old.last entry_of.body
  pub behind : d.is_modelled → d.content new.device ≡ d.content old.device ++ added
  pub synced : d.kept new.device ≡ d.content new.device
  pub counts : d.failures new.device ≡ d.failures old.device

-- the entry of the Write that is in doubt now, with its tag, was to be added and synced, and a device call failed
pub record HasFailed {D : Type 0} (d : Ghosts D) (old new : ServerState D) : Type 0 where
  pub stored : Record
  pub doubt : record_in_doubt new.core ≡ Some stored
  pub added : List ℕ
  pub entry_of : IsEntryOf old.core.id old.last stored added
  pub left : d.is_modelled → FailsToAdd d.may_leave added (d.content old.device) (d.content new.device)
  pub rose : Rose (d.failures old.device) (d.failures new.device)

-- how the device stands after a program was answered
abbrev pub StoresWrite : {D : Type 0} → Ghosts D → (old : ServerState D) → Result Written WriteFault → (new : ServerState D) → Type 0
StoresWrite d old (Ok (written.New accepted)) new = HasAdded d old new
StoresWrite d old (Ok (written.Known accepted)) new = IsUntouched old new
StoresWrite d old (Err TagUsed) new = IsUntouched old new
StoresWrite d old (Err Down) new = IsUntouched old new
StoresWrite d old (Err (Behind vector)) new = IsUntouched old new
StoresWrite d old (Err LogFull) new = IsUntouched old new
StoresWrite d old (Err OutOfMemory) new = IsUntouched old new
StoresWrite d old (Err Journal) new = HasFailed d old new

-- how the device stands after a Write that another server accepted was answered
abbrev pub StoresTaken : {D : Type 0} → Ghosts D → (old : ServerState D) → Result Took TakeFault → (new : ServerState D) → Type 0
StoresTaken d old (Ok New) new = HasAdded d old new
StoresTaken d old (Ok Had) new = IsUntouched old new
StoresTaken d old (Err taking.Conflict) new = IsUntouched old new
StoresTaken d old (Err taking.Down) new = IsUntouched old new
StoresTaken d old (Err taking.OwnLost) new = IsUntouched old new
StoresTaken d old (Err taking.Gap) new = IsUntouched old new
StoresTaken d old (Err taking.BadStamp) new = IsUntouched old new
StoresTaken d old (Err taking.LogFull) new = IsUntouched old new
StoresTaken d old (Err taking.OutOfMemory) new = IsUntouched old new
StoresTaken d old (Err taking.Journal) new = HasFailed d old new

-- ---- an opening

-- how many device calls the opening of a server's journal makes at the most
abbrev pub OpensInCalls : {D : Type 0} → Ghosts D → (id : ℕ) → (old new : D) → Type 0
OpensInCalls d id old new = journals.OpensInCalls d id old new

-- the journal was opened: these bodies were found, and are all that it tells then; its next entry stands after that digest
pub record OpensWith {D : Type 0} (d : Ghosts D) (id : ℕ) (old new : D) (bodies : List Body) (last : List ℕ) : Type 0 where
  pub dropped : ℕ
  pub opened : HasOpened d id old new (record { bodies = bodies; dropped = dropped }) last

-- the journal was opened, and these records are what it stores
abbrev pub OpensWithRecords : {D : Type 0} → Ghosts D → (id : ℕ) → (old new : D) → List Record → (last : List ℕ) → Type 0
OpensWithRecords d id old new stored last = (bodies : List Body) × Stores id bodies stored × OpensWith d id old new bodies last

-- the bodies begin with those of the Writes held, with their tags, in their order
pub record BeginsWithHeld (server : ℕ) (held : List Record) (bodies : List Body) : Type 0 where
  pub front : List Body
  pub more : List Body
  pub stores : Stores server front held
  pub split : bodies ≡ front ++ more

-- what is held once the Write in doubt is adopted, with its tag
abbrev pub records_with_doubt : Core → (doubt : Write) → List Record
records_with_doubt core doubt = records (core.held ++ doubt ∷ []) (core.tags ++ core.doubt_tag ∷ [])

-- they do, and are neither of what is held alone, nor of that and of the Write in doubt
pub record HasOther (core : Core) (doubt : Write) (bodies : List Body) : Type 0 where
  pub begins : BeginsWithHeld core.id (records_of core) bodies
  pub not_held : ¬ Stores core.id bodies (records_of core)
  pub not_adopted : ¬ Stores core.id bodies (records_with_doubt core doubt)

-- the Write in doubt with its tag, and others in doubt after it
abbrev pub doubts_of : Core → (doubt : Write) → (taking : List Write) → List Record
doubts_of core doubt taking = record { write = doubt; tag = core.doubt_tag } ∷ untagged taking

-- and where others are in doubt after it, neither of what is held, of that Write and of a front of them
abbrev pub HasNoFront : (core : Core) → (doubt : Write) → (taking : List Write) → (bodies : List Body) → Type 0
HasNoFront core doubt taking bodies = (front behind : List Write) → taking ≡ front ++ behind → ¬ Stores core.id bodies (records_of core ++ doubts_of core doubt front)

-- How the device stands after a reopening was answered, and what of its journal the answer comes from. The refusals stand in
-- their order; want of memory may come anywhere after the first.
abbrev pub ReopensJournal : {D : Type 0} → Ghosts D → (old : ServerState D) → Result Reopened ReopenFault → (new : ServerState D) → Type 0
ReopensJournal d old (Ok reopened) new = OpensWithRecords d old.core.id old.device new.device (records_of new.core) new.last
ReopensJournal d old (Err reopening.NotDown) new = IsUntouched old new
ReopensJournal d old (Err (reopening.Journal fault)) new = HasRefused d old.core.id old.device new.device (open_fault fault)
ReopensJournal d old (Err reopening.Lost) new =
    (bodies : List Body) × OpensWith d old.core.id old.device new.device bodies new.last × (¬ BeginsWithHeld old.core.id (records_of old.core) bodies)
ReopensJournal d old (Err (reopening.BadRecord at)) new =
    (doubt : Write) × (old.core.doubt ≡ Some doubt)
    × ((bodies : List Body) × OpensWith d old.core.id old.device new.device bodies new.last × HasOther old.core doubt bodies × HasNoFront old.core doubt old.taking bodies)
ReopensJournal d old (Err reopening.OutOfMemory) new =
    HasRefused d old.core.id old.device new.device opening.OutOfMemory
    ⊎ ((bodies : List Body) × OpensWith d old.core.id old.device new.device bodies new.last)
