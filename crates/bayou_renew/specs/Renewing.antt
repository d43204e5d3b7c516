-- A server of a new store, made of a journal of an old one: this project's own.
use Rattle.std.specs.Prelude.{◌≡◌, ◌≢◌, ◌⊎◌, ◌*◌, ◌+◌, ◌<◌, ◌≤◌, ℕ, List, [], Option, None, Some, All, length, map}
use Rattle.bayou_base.specs.declared.limits.TheConstants.{MAX_OPS, MAX_WRITES}
use Rattle.bayou_device.specs.declared.device.Device.{Ghosts}
use Rattle.bayou_greeting.specs.OriginDigests.{digest_of, short}
use Rattle.bayou_journal.specs.declared.careful.Damage.{Damage}
use Rattle.bayou_lang.specs.declared.write.Write.{Write}
use Rattle.bayou_lang.specs.Writes.{count_of}
use Rattle.bayou_log.specs.Replay.{replay}
use Rattle.bayou_log.specs.Rows.{Row}
use Rattle.bayou_renew.specs.Renewal.{AreMadeOf, IsWithout, ORIGIN, kept_rows}
use Rattle.bayou_renew.specs.declared.fault.ReadingFault.{ReadingFault}
use Rattle.bayou_renew.specs.declared.fault.ReadingFault.TheVariants.{Device, Damaged, NotAJournal, OtherServer, BadRecord, Gap, LogFull, Memory}
use Rattle.bayou_renew.specs.declared.fault.RenewFault.{RenewFault}
use Rattle.bayou_renew.specs.declared.fault.RenewFault.TheVariants.{Unread, Elsewhere, TooMany, OutOfMemory}
use Rattle.bayou_renew.specs.declared.plan.RenewalPlan.{RenewalPlan}
use Rattle.bayou_renew.specs.declared.plan.RenewalWish.{RenewalWish}
use Rattle.bayou_server.specs.Server.{Core, IsUp, ServerState}
use Rattle.bayou_server.specs.Starts.{FailsToStart, Starts, StartsOn}
use Rattle.bayou_server.specs.declared.fault.JournalFault.TheVariants as journals
use Rattle.bayou_server.specs.declared.fault.StartFault.{StartFault}
use Rattle.bayou_server.specs.declared.fault.StartFault.TheVariants as starts
use Rattle.bayou_wire.specs.Spelling.{write_bytes}

-- A start that was refused is reported by its own name. Where the device refused a cut, the damage is reported in place of the call that failed.
abbrev pub unread_as : StartFault → Option Damage → ReadingFault
unread_as (starts.Journal journals.Device) (Some damage) = Damaged damage
unread_as (starts.Journal journals.Device) None = Device
unread_as (starts.Journal journals.NotAJournal) damage = NotAJournal
unread_as (starts.Journal journals.OtherServer) damage = OtherServer
unread_as (starts.BadRecord entry) damage = BadRecord entry
unread_as (starts.Gap entry) damage = Gap entry
unread_as starts.LogFull damage = LogFull
unread_as starts.OutOfMemory damage = Memory

-- the server was started on a copy of these bytes, and holds what they tell
pub record IsOnCopy {D : Type 0} (d : Ghosts D) (id count : ℕ) (bytes : List ℕ) (server : ServerState D) : Type 0 where
  pub starts : Starts id count MAX_WRITES server.core
  pub copy : D
  pub same : d.content copy ≡ bytes
  pub dropped : ℕ
  pub opened : StartsOn d copy server dropped

-- A copy of these bytes doesn't start, and why.
pub record IsNoJournal {D : Type 0} (d : Ghosts D) (damage : D → Option Damage) (id count : ℕ) (bytes : List ℕ) (fault : ReadingFault) : Type 0 where
  pub copy : D
  pub same : d.content copy ≡ bytes
  pub left : D
  pub why : StartFault
  pub refused : FailsToStart d id count MAX_WRITES copy left why
  pub told : fault ≡ unread_as why (damage left)

-- The Writes are what is wanted of those that an old server holds: its database, less what is left out, as Writes of one server alone, and no more of
-- them than there may be.
pub record AreRenewed (wish : RenewalWish) (old new : List Write) : Type 0 where
  pub at : count_of old ≡ wish.at
  pub made : AreMadeOf [] (kept_rows wish.without.items (replay old)) new
  pub database : IsWithout wish.without.items (replay old) (replay new)
  pub own : All (λ write. write.wid.origin.index ≡ ORIGIN) new
  pub few : length new ≤ wish.most

-- so many rows take so many Writes
abbrev pub TakesWrites : (rows writes : ℕ) → Type 0
TakesWrites rows writes = (rows ≤ MAX_OPS * writes) × (MAX_OPS * writes < rows + MAX_OPS)

-- Why the Writes aren't made of those that an old server holds: it holds something else, or they were too many. Memory may run out.
abbrev pub AreNotRenewed : RenewalWish → List Write → RenewFault → Type 0
AreNotRenewed wish old (Elsewhere held) = (held ≡ count_of old) × (held ≢ wish.at)
AreNotRenewed wish old (TooMany number) = (count_of old ≡ wish.at) × TakesWrites (length (kept_rows wish.without.items (replay old))) number × (wish.most < number)
AreNotRenewed wish old OutOfMemory = Unit {0}
AreNotRenewed wish old (Unread fault) = ⊥

-- the digest of Writes of one server, as servers tell it to one another
abbrev pub digest : List Write → ℕ
digest writes = short (digest_of (map write_bytes writes))

-- the rows are what is wanted of those that a journal of these bytes tells, of a server that holds what it must
pub record AreRowsOf {D : Type 0} (d : Ghosts D) (plan : RenewalPlan) (bytes : List ℕ) (rows : List Row) : Type 0 where
  pub server : ServerState D
  pub copy : IsOnCopy d plan.id.index plan.servers bytes server
  pub at : count_of server.core.held ≡ plan.wish.at
  pub are : rows ≡ kept_rows plan.wish.without.items (replay server.core.held)

-- Why a journal of these bytes isn't renewed: it isn't read, and a call of its device failed, or it is none; or it tells what can't be renewed.
abbrev pub IsNotRenewed : {D : Type 0} → Ghosts D → (D → Option Damage) → (has_failed : Type 0) → RenewalPlan → (bytes : List ℕ) → RenewFault → Type 0
IsNotRenewed {D} d damage has_failed plan bytes (Unread fault) = (fault ≡ Memory) ⊎ ((fault ≡ Device) × has_failed) ⊎ IsNoJournal d damage plan.id.index plan.servers bytes fault
IsNotRenewed {D} d damage has_failed plan bytes (Elsewhere held) =
    (server : ServerState D) × IsOnCopy d plan.id.index plan.servers bytes server × AreNotRenewed plan.wish server.core.held (Elsewhere held)
IsNotRenewed {D} d damage has_failed plan bytes (TooMany number) =
    (server : ServerState D) × IsOnCopy d plan.id.index plan.servers bytes server × AreNotRenewed plan.wish server.core.held (TooMany number)
IsNotRenewed {D} d damage has_failed plan bytes OutOfMemory = Unit {0}

-- The plan's server in the new store is up, and holds what is wanted of what a journal of these bytes tells; so many keys its database has, and this is
-- the digest of its Writes.
pub record IsRenewed {D : Type 0} (d : Ghosts D) (plan : RenewalPlan) (bytes : List ℕ) (core : Core) (keys told : ℕ) : Type 0 where
  pub server : ServerState D
  pub copy : IsOnCopy d plan.id.index plan.servers bytes server
  pub renewed : AreRenewed plan.wish server.core.held core.held
  pub number : keys ≡ length (kept_rows plan.wish.without.items (replay server.core.held))
  pub digested : told ≡ digest core.held
  pub up : IsUp core
  pub id : core.id ≡ plan.id.index
  pub count : core.count ≡ plan.servers_then
