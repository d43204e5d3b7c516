-- A server over a device whose calls may fail, and that it is recovered honestly: this project's own.
use Rattle.std.specs.Prelude.{◌≡◌, ◌⊎◌, ℕ, List, [], ◌∷◌, ◌++◌, Option, None, Some, Result, Ok, Err}
use Rattle.bayou_device.specs.declared.device.Device.{Ghosts}
use Rattle.bayou_journal.specs.Honest as journals
use Rattle.bayou_journal.specs.Versions.{Body}
use Rattle.bayou_wire.specs.declared.record.Record.{Record}
use Rattle.bayou_server.specs.declared.answer.Reopened.{Reopened}
use Rattle.bayou_server.specs.declared.fault.JournalFault.TheVariants.{Device, NotAJournal, OtherServer}
use Rattle.bayou_server.specs.declared.fault.ReopenFault.{ReopenFault}
use Rattle.bayou_server.specs.declared.fault.ReopenFault.TheVariants as reopening
use Rattle.bayou_server.specs.declared.fault.StartFault.{StartFault}
use Rattle.bayou_server.specs.declared.fault.StartFault.TheVariants as starting
use Rattle.bayou_lang.specs.declared.write.Write.{Write}
use Rattle.bayou_server.specs.Server.{Core, IsSoundServer, ServerState, record_in_doubt, records_of, with_taken}
use Rattle.bayou_server.specs.Stored.{IsBodyOf, Stores}

-- the body in doubt stands for the record of the Write in doubt, if one is
abbrev pub StoresDoubt : (id : ℕ) → Option Body → Option Record → Type 0
StoresDoubt id None None = Unit {0}
StoresDoubt id (Some body) (Some doubt) = IsBodyOf id body doubt
StoresDoubt id None (Some doubt) = ⊥
StoresDoubt id (Some body) None = ⊥

-- a list of it alone, or of nothing
abbrev pub list_of : Option Body → List Body
list_of None = []
list_of (Some body) = body ∷ []

-- The device is honest for the server's Writes, with their tags: the entries of those held are kept, and no other entry goes on from them but that
-- of the Write in doubt, if one is.
pub record IsHonestServerDevice {D : Type 0} (d : Ghosts D) (id : ℕ) (held : List Record) (doubt : Option Record) (device : D) : Type 0 where
  pub bodies : List Body
  pub body : Option Body
  pub stores : Stores id bodies held
  pub stores_doubt : StoresDoubt id body doubt
  pub honest : journals.IsHonestDevice d id bodies (list_of body) device

-- the device has the server's journal, with the Writes held and nothing else, all of it kept; its next entry stands after that digest
pub record IsWholeDevice {D : Type 0} (d : Ghosts D) (id : ℕ) (held : List Record) (last : List ℕ) (device : D) : Type 0 where
  pub bodies : List Body
  pub stores : Stores id bodies held
  pub whole : journals.IsWhole d id bodies last device

-- what a server that is up has on its device, and one that is down
abbrev pub IsLeft : {D : Type 0} → Ghosts D → (id : ℕ) → (held : List Record) → Option Record → (last : List ℕ) → (device : D) → Type 0
IsLeft d id held None last device = IsWholeDevice d id held last device
IsLeft d id held (Some doubt) last device = IsHonestServerDevice d id held (Some doubt) device

-- The server is over an honest device: while it is up a whole one.
abbrev pub IsHonestServer : {D : Type 0} → Ghosts D → ServerState D → Type 0
IsHonestServer d server = IsLeft d server.core.id (records_of server.core) (record_in_doubt server.core) server.last server.device

-- the entries of the Writes held are kept, if any are held
pub record KeepsWrites {D : Type 0} (d : Ghosts D) (id : ℕ) (held : List Record) (device : D) : Type 0 where
  pub bodies : List Body
  pub stores : Stores id bodies held
  pub keeps : journals.KeepsBodies d id bodies device

-- what a server that is up keeps on its device, and one that is down, whatever its failed calls left after that
abbrev pub IsKept : {D : Type 0} → Ghosts D → (id : ℕ) → (held : List Record) → Option Record → (last : List ℕ) → (device : D) → Type 0
IsKept d id held None last device = IsWholeDevice d id held last device
IsKept d id held (Some doubt) last device = KeepsWrites d id held device

-- What a server holds is kept: while it is up it has a whole device.
abbrev pub IsKeptServer : {D : Type 0} → Ghosts D → ServerState D → Type 0
IsKeptServer d server = IsKept d server.core.id (records_of server.core) (record_in_doubt server.core) server.last server.device

-- The device of a server crashed, maybe as the entry of the Write in doubt was being stored: it keeps what it kept, and after that stands
-- any tail. In what is kept after the bodies of the Writes held, whatever their versions, and the tail, nothing goes on from them but
-- a body of the Write in doubt.
abbrev pub HasCrashed : {D : Type 0} → Ghosts D → (id : ℕ) → (held : List Record) → (doubt : Option Record) → (old new : D) → Type 0
HasCrashed d id held doubt old new = (bodies : List Body) → Stores id bodies held → (body : Option Body) × StoresDoubt id body doubt × journals.HasCrashed d id bodies (list_of body) old new

-- ---- several Writes of other servers that were being stored together

-- Each state between two of the Takes is sound, also with the Write in doubt that is taken there.
abbrev pub MayTakeAll : Core → List Write → Type 0
MayTakeAll core [] = IsSoundServer core
MayTakeAll core (write ∷ writes) = IsSoundServer (record core { doubt = Some write; doubt_tag = None }) × MayTakeAll (with_taken core write) writes

-- the list is that of what was held, and of a front of what was being taken: what is held between two of the Takes
abbrev pub AreBetween : {A : Type 0} → (held taking : List A) → List A → Type 0
AreBetween held [] found = found ≡ held
AreBetween held (one ∷ taking) found = (found ≡ held) ⊎ AreBetween (held ++ one ∷ []) taking found

-- The device is honest for the Writes held and for those that were being stored: the entries of those held are kept, and no other goes on
-- from them but a front of the others.
pub record IsHonestAmid {D : Type 0} (d : Ghosts D) (id : ℕ) (held taking : List Record) (device : D) : Type 0 where
  pub bodies : List Body
  pub more : List Body
  pub stores : Stores id bodies held
  pub stores_more : Stores id more taking
  pub honest : journals.IsHonestDevice d id bodies more device

-- it crashed as these were being stored
abbrev pub HasCrashedAmid : {D : Type 0} → Ghosts D → (id : ℕ) → (held taking : List Record) → (old new : D) → Type 0
HasCrashedAmid d id held taking old new = (bodies : List Body) → Stores id bodies held → (more : List Body) × Stores id more taking × journals.HasCrashed d id bodies more old new

-- the list is that of what was held, or of that and of what was in doubt, if anything was
abbrev pub AreHonest : {A : Type 0} → (held : List A) → (doubt : Option A) → List A → Type 0
AreHonest held None found = found ≡ held
AreHonest held (Some doubt) found = (found ≡ held) ⊎ (found ≡ held ++ doubt ∷ [])

-- A reopening over an honest device succeeds, or a device call failed, or memory was refused, or the server was up.
abbrev pub IsHonestAnswer : Result Reopened ReopenFault → Type 0
IsHonestAnswer (Ok reopened) = Unit {0}
IsHonestAnswer (Err reopening.NotDown) = Unit {0}
IsHonestAnswer (Err (reopening.Journal Device)) = Unit {0}
IsHonestAnswer (Err reopening.OutOfMemory) = Unit {0}
IsHonestAnswer (Err (reopening.Journal NotAJournal)) = ⊥
IsHonestAnswer (Err (reopening.Journal OtherServer)) = ⊥
IsHonestAnswer (Err reopening.Lost) = ⊥
IsHonestAnswer (Err (reopening.BadRecord at)) = ⊥

-- and a start on one that is refused, for the first two alone
abbrev pub IsHonestRefusal : StartFault → Type 0
IsHonestRefusal (starting.Journal Device) = Unit {0}
IsHonestRefusal starting.OutOfMemory = Unit {0}
IsHonestRefusal (starting.Journal NotAJournal) = ⊥
IsHonestRefusal (starting.Journal OtherServer) = ⊥
IsHonestRefusal (starting.BadRecord at) = ⊥
IsHonestRefusal (starting.Gap at) = ⊥
IsHonestRefusal starting.LogFull = ⊥

-- A reopening doesn't say that the journal lost a Write that was held, or isn't the server's.
abbrev pub LosesNothing : Result Reopened ReopenFault → Type 0
LosesNothing (Ok reopened) = Unit {0}
LosesNothing (Err reopening.NotDown) = Unit {0}
LosesNothing (Err (reopening.Journal Device)) = Unit {0}
LosesNothing (Err (reopening.BadRecord at)) = Unit {0}
LosesNothing (Err reopening.OutOfMemory) = Unit {0}
LosesNothing (Err (reopening.Journal NotAJournal)) = ⊥
LosesNothing (Err (reopening.Journal OtherServer)) = ⊥
LosesNothing (Err reopening.Lost) = ⊥
