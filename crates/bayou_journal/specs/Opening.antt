-- What an opening finds, refuses and leaves: this project's own.
use Rattle.std.specs.Prelude.{◌≡◌, ◌≢◌, ◌⊎◌, ◌==◌, ℕ, List, [], ◌++◌, length, if◌then◌else◌}
use Rattle.bayou_device.specs.Device.{BeginsWith, Rose}
use Rattle.bayou_device.specs.declared.device.Device.{Ghosts}
use Rattle.bayou_journal.specs.Chain.{AreBodies, entry, header, journal, name}
use Rattle.bayou_journal.specs.Opened.{Found}
use Rattle.bayou_journal.specs.Versions.{AreLongest, IsVersion, IsVersionOf, Records, bodies_in, end_of, journal_of, newest_mark, raised, version_of}
use Rattle.bayou_journal.specs.declared.format.TheConstants.{NEWEST_VERSION}
use Rattle.bayou_journal.specs.declared.fault.OpenFault.{OpenFault}
use Rattle.bayou_journal.specs.declared.fault.OpenFault.TheVariants.{Device, NotAJournal, OtherServer, OutOfMemory}

-- the bytes are the front of what every journal of some version begins with, and no whole header: a new journal
abbrev pub IsNew : List ℕ → Type 0
IsNew bytes = (version : ℕ) × IsVersion version × BeginsWith bytes (name version)

-- the bytes are neither a front of what the journals of some version begin with, nor begin with it
pub record IsForeign (bytes : List ℕ) : Type 0 where
  pub no_front : IsNew bytes → ⊥
  pub no_journal : (version : ℕ) → IsVersion version → BeginsWith (name version) bytes → ⊥

-- the bytes begin with the header of another server's journal, or of one that there was not among the servers of its version
pub record IsOfAnother (server : ℕ) (bytes : List ℕ) : Type 0 where
  pub version : ℕ
  pub owner : ℕ
  pub known : IsVersion version
  pub another : (owner ≢ server) ⊎ (¬ IsVersionOf owner version)
  pub begins : BeginsWith (header version owner) bytes

-- a journal that has no entry yet
abbrev pub new_records : Records
new_records = record { version = NEWEST_VERSION; bodies = [] }

-- What an opening finds in the bytes: nothing, in a new journal, or the longest chain; it drops the rest.
pub record IsNewJournal (bytes : List ℕ) (records : Records) (dropped : ℕ) : Type 0 where
  pub front : IsNew bytes
  pub empty : records ≡ new_records
  pub whole : dropped ≡ length bytes

pub record IsOldJournal (server : ℕ) (bytes : List ℕ) (records : Records) (dropped : ℕ) : Type 0 where
  pub rest : List ℕ
  pub longest : AreLongest server bytes records rest
  pub behind : dropped ≡ length rest

abbrev pub Finds : ℕ → List ℕ → Records → ℕ → Type 0
Finds server bytes records dropped = IsNewJournal bytes records dropped ⊎ IsOldJournal server bytes records dropped

-- what an opening adds after the entries found: the mark of the newest version, where the chain hasn't got it
abbrev pub mark_for : ℕ → Records → List ℕ
mark_for server records = if version_of records == NEWEST_VERSION then [] else entry (end_of server records) newest_mark

-- each journal with which the one begins the other begins with too
abbrev pub KeepsChains : List ℕ → List ℕ → Type 0
KeepsChains before after = (version server : ℕ) (bodies : List (List ℕ)) → AreBodies bodies → BeginsWith (journal version server bodies) before → BeginsWith (journal version server bodies) after

-- a piece was to be added and synced, and one of the two failed
abbrev pub FailsToAdd : (List ℕ → List ℕ → List ℕ → Type 0) → List ℕ → List ℕ → List ℕ → Type 0
FailsToAdd may_leave piece before after = may_leave piece before after ⊎ may_leave [] (before ++ piece) after

-- what an opening may leave of the bytes where a device call fails: the read or the cut; the header's append, in a new
-- journal; the mark's, after an older one; or the sync
abbrev pub FailsToOpen : (List ℕ → List ℕ → List ℕ → Type 0) → ℕ → List ℕ → List ℕ → Type 0
FailsToOpen may_leave server before after =
    may_leave [] before after
    ⊎ ((IsNew before × may_leave (header NEWEST_VERSION server) [] after)
    ⊎ ((records : Records) × (dropped : ℕ) × Finds server before records dropped × FailsToAdd may_leave (mark_for server records) (journal_of server records) after))

-- neither what a read gives, nor what is kept, nor the count of failures has changed
pub record Unchanged {D : Type 0} (d : Ghosts D) (old new : D) : Type 0 where
  pub same : d.content new ≡ d.content old
  pub as_kept : d.kept new ≡ d.kept old
  pub counts : d.failures new ≡ d.failures old

-- What an opening that succeeds finds, and what it leaves: the server's header and the entries found, raised to the newest version,
-- all of it synced; and the digest that the next entry stands after.
pub record HasOpened {D : Type 0} (d : Ghosts D) (server : ℕ) (old new : D) (found : Found) (last : List ℕ) : Type 0 where
  pub records : Records
  pub known : IsVersionOf server records.version
  pub sizes : AreBodies records.bodies
  pub finds : d.is_modelled → Finds server (d.content old) records found.dropped
  pub tells : found.bodies ≡ bodies_in records
  pub leaves : d.is_modelled → d.content new ≡ journal_of server (raised records)
  pub synced : d.kept new ≡ d.content new
  pub ends : last ≡ end_of server (raised records)
  pub counts : d.failures new ≡ d.failures old

-- When each fault of an opening comes, and what it leaves.
abbrev pub HasRefused : {D : Type 0} → Ghosts D → (server : ℕ) → (old new : D) → OpenFault → Type 0
HasRefused d server old new Device =
    Rose (d.failures old) (d.failures new) × (d.is_modelled → FailsToOpen d.may_leave server (d.content old) (d.content new))
HasRefused d server old new NotAJournal = Unchanged d old new × (d.is_modelled → IsForeign (d.content old))
HasRefused d server old new OtherServer = Unchanged d old new × (d.is_modelled → IsOfAnother server (d.content old))
HasRefused d server old new OutOfMemory = Unchanged d old new

-- How many device calls an opening makes at the most: the read, the cut, the append of the header or of the mark, and the sync. There
-- is no cut where nothing stands after the chain, no append where the header is there and the chain is at the newest version, and
-- nothing but the read where the bytes are refused.
pub record OpensInCalls {D : Type 0} (d : Ghosts D) (server : ℕ) (old new : D) : Type 0 where
  pub most : d.leads_to 4 old new
  pub empty : d.is_modelled → d.content old ≡ [] → d.leads_to 3 old new
  pub headed : d.is_modelled → BeginsWith (header NEWEST_VERSION server) (d.content old) → d.leads_to 3 old new
  pub newest : d.is_modelled → (records : Records) (rest : List ℕ) → AreLongest server (d.content old) records rest → version_of records ≡ NEWEST_VERSION → d.leads_to 3 old new
  pub older : d.is_modelled → (records : Records) → AreLongest server (d.content old) records [] → d.leads_to 3 old new
  pub whole : d.is_modelled → (records : Records) → AreLongest server (d.content old) records [] → version_of records ≡ NEWEST_VERSION → d.leads_to 2 old new
  pub foreign : d.is_modelled → IsForeign (d.content old) → d.leads_to 1 old new
  pub another : d.is_modelled → IsOfAnother server (d.content old) → d.leads_to 1 old new
