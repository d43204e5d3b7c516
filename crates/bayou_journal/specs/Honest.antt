-- What is left of a journal where a device call fails, and the honest opening: this project's own.
use Rattle.std.specs.Prelude.{◌≡◌, ◌⊎◌, ℕ, List, [], ◌∷◌, ◌++◌, take}
use Rattle.bayou_device.specs.Device.{BeginsWith}
use Rattle.bayou_device.specs.Memory.{AddsFront}
use Rattle.bayou_device.specs.declared.device.Device.{Ghosts}
use Rattle.bayou_journal.specs.Chain.{AreBodies, NoEntry, chain_end, entries, entry, header, journal, last_link}
use Rattle.bayou_journal.specs.Versions.{AreLongest, Body, IsVersionOf, Records, bodies_in, body_in, end_of, journal_of, told, version_of}
use Rattle.bayou_journal.specs.declared.fault.OpenFault.{OpenFault}
use Rattle.bayou_journal.specs.declared.fault.OpenFault.TheVariants.{Device, NotAJournal, OtherServer, OutOfMemory}
use Rattle.bayou_journal.specs.declared.format.TheConstants.{NEWEST_VERSION}

-- The bodies found are those that were added, and a front of those in doubt, whose append failed: none of them, or the first one, and so on.
abbrev pub IsHonest : (bodies doubts found : List Body) → Type 0
IsHonest bodies [] found = found ≡ bodies
IsHonest bodies (body ∷ doubts) found = (found ≡ bodies) ⊎ IsHonest (bodies ++ body ∷ []) doubts found

-- a body as it is added: in the newest version
abbrev pub added_body : List ℕ → Body
added_body bytes = body_in NEWEST_VERSION bytes

-- the journal of these bodies, and after it the first so many bytes of the entry of one more
abbrev pub torn : ℕ → ℕ → List (List ℕ) → List ℕ → ℕ → List ℕ
torn version server bodies body count = journal version server bodies ++ take count (entry (chain_end version server bodies) body)

-- The bytes are the server's journal, which tells these bodies, is at the newest version, and whose next entry stands after that
-- digest.
pub record HasJournal (server : ℕ) (bodies : List Body) (last bytes : List ℕ) : Type 0 where
  pub records : Records
  pub known : IsVersionOf server records.version
  pub sizes : AreBodies records.bodies
  pub tells : bodies_in records ≡ bodies
  pub newest : version_of records ≡ NEWEST_VERSION
  pub ends : end_of server records ≡ last
  pub whole : bytes ≡ journal_of server records

-- the device has such a journal and nothing else, and all of it is kept
pub record IsWhole {D : Type 0} (d : Ghosts D) (server : ℕ) (bodies : List Body) (last : List ℕ) (device : D) : Type 0 where
  pub has : HasJournal server bodies last (d.content device)
  pub synced : d.kept device ≡ d.content device

-- the bytes are a front of the header of the server's journal, in some version that it may have
abbrev pub IsFrontOfHeader : ℕ → List ℕ → Type 0
IsFrontOfHeader server bytes = (version : ℕ) × IsVersionOf server version × BeginsWith bytes (header version server)

-- the longest chain in the bytes tells the bodies that were added, and a front of those in doubt
pub record IsRecovered (server : ℕ) (bodies : List Body) (doubts : List Body) (bytes : List ℕ) : Type 0 where
  pub records : Records
  pub rest : List ℕ
  pub longest : AreLongest server bytes records rest
  pub honest : IsHonest bodies doubts (bodies_in records)

-- it does; or no body was added yet, and the bytes are a front of the header
abbrev pub IsRecoverable : ℕ → List Body → List Body → List ℕ → Type 0
IsRecoverable server bodies doubts bytes = ((bodies ≡ []) × IsFrontOfHeader server bytes) ⊎ IsRecovered server bodies doubts bytes

-- the bytes begin with the server's journal of some records, which tell these bodies
pub record BeginsWithBodies (server : ℕ) (bodies : List Body) (bytes : List ℕ) : Type 0 where
  pub records : Records
  pub known : IsVersionOf server records.version
  pub sizes : AreBodies records.bodies
  pub tells : bodies_in records ≡ bodies
  pub begins : BeginsWith (journal_of server records) bytes

-- what is kept begins with the bodies that were added, if there are any
abbrev pub KeepsBodies : {D : Type 0} → Ghosts D → (server : ℕ) → (bodies : List Body) → (device : D) → Type 0
KeepsBodies d server bodies device = (bodies ≡ []) ⊎ BeginsWithBodies server bodies (d.kept device)

-- The device is honest for the bodies that were added: what is kept begins with them, if there are any; and a read gives them, and
-- after them no other than a front of those in doubt.
pub record IsHonestDevice {D : Type 0} (d : Ghosts D) (server : ℕ) (bodies : List Body) (doubts : List Body) (device : D) : Type 0 where
  pub kept : KeepsBodies d server bodies device
  pub recoverable : IsRecoverable server bodies doubts (d.content device)

-- the entries that go on in the bytes after these records, up to where none stands, tell a front of those in doubt
pub record GoesOnHonestly (server : ℕ) (records : Records) (doubts : List Body) (bytes : List ℕ) : Type 0 where
  pub more : List (List ℕ)
  pub rest : List ℕ
  pub sizes : AreBodies more
  pub split : bytes ≡ entries (end_of server records) more ++ rest
  pub longest : NoEntry (last_link (end_of server records) more) rest
  pub honest : IsHonest [] doubts (told (version_of records) more)

-- The device crashed, maybe as bodies were being added: it keeps what it kept, and after that stands any tail. In what is kept after the
-- bodies that were added, and the tail, nothing goes on from them but a front of those in doubt; and where the header wasn't kept yet, no more
-- than the header stands there.
pub record HasCrashed {D : Type 0} (d : Ghosts D) (server : ℕ) (bodies : List Body) (doubts : List Body) (old new : D) : Type 0 where
  pub as_kept : d.kept new ≡ d.kept old
  pub tail : List ℕ
  pub behind : d.content new ≡ d.kept old ++ tail
  pub none : (records : Records) (more : List ℕ) → IsVersionOf server records.version → AreBodies records.bodies → bodies_in records ≡ bodies → d.kept old ≡ journal_of server records ++ more
      → GoesOnHonestly server records doubts (more ++ tail)
  pub begun : ((version : ℕ) × IsVersionOf server version × BeginsWith (header version server) (d.kept old)) ⊎ IsFrontOfHeader server (d.kept old ++ tail)

-- The clauses say what the device holds, and a call that fails does no more than to tear: it adds no more than a front of its piece.
pub record OnlyTears {D : Type 0} (d : Ghosts D) : Type 0 where
  pub modelled : d.is_modelled
  pub adds_front : (piece before after : List ℕ) → d.may_leave piece before after → AddsFront piece before after

-- a device call failed, or memory was refused: the journal itself isn't
abbrev pub IsPassing : OpenFault → Type 0
IsPassing Device = Unit {0}
IsPassing OutOfMemory = Unit {0}
IsPassing NotAJournal = ⊥
IsPassing OtherServer = ⊥
