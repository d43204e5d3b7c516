-- Vectors in place of sets: what a session heard of, and what an operation demands of it. Inner words.
use Rattle.std.specs.Prelude.{◌≡◌, ℕ, ◌+◌, ◌<◌, ◌≤◌, ◌↔◌, ◌⊎◌, Bool, true, false, List, Option, Some, None, Contains, All, AllPairs, Any, ◌∷◌, [], ◌≢◌, length, slice_get, take}
use Rattle.bayou_base.specs.Order.{is_before}
use Rattle.bayou_base.specs.Vector.{Covers}
use Rattle.bayou_base.specs.declared.entry.Entry.{Entry}
use Rattle.bayou_base.specs.declared.entry.What.{What}
use Rattle.bayou_base.specs.declared.entry.What.TheVariants as whats
use Rattle.bayou_base.specs.declared.limits.TheConstants.{SERVERS}
use Rattle.bayou_base.specs.declared.stamp.Stamp.{Stamp}
use Rattle.bayou_base.specs.declared.wid.Wid.{Wid}
use Rattle.bayou_lang.specs.declared.write.Write.{Write}
use Rattle.bayou_lang.specs.Writes.{count_of}
use Rattle.bayou_judge.specs.declared.breach.Breach.{Breach}
use Rattle.bayou_judge.specs.declared.breach.Guarantee.{Guarantee}
use Rattle.bayou_judge.specs.declared.breach.Guarantee.TheVariants as guarantees
use Rattle.bayou_judge.specs.declared.demand.Demand.{Demand}
use Rattle.bayou_judge.specs.declared.locate.Fault.{Fault}
use Rattle.bayou_judge.specs.declared.needs.Need.{Need}
use Rattle.bayou_judge.specs.Answers.{IsEvidence}
use Rattle.bayou_judge.specs.Breaches.{is_less}
use Rattle.bayou_judge.specs.Guarantees.{PrecedesIn}
use Rattle.bayou_judge.specs.History.{dump_of, IsFrontOf, IsReadFrom, IsWriteOf}
use Rattle.bayou_judge.specs.Inner.Index.{AreIndexed, IsUpTo, Tables}

-- the entries and the dumps of so many servers, and the tables of each dump
pub record IndexedEvidence : Type 0 where
  pub count : ℕ
  pub entries : List Entry
  pub dumps : List (List Write)
  pub indexes : List Tables

-- entries and dumps stand for a history, and each dump has its tables
pub record IsChecked (count : ℕ) (entries : List Entry) (dumps : List (List Write)) (indexes : List Tables) : Type 0 where
  pub evidence : IsEvidence count entries dumps
  pub indexed : AreIndexed dumps indexes
  pub sized : length dumps ≡ count
  pub few : count ≤ SERVERS

-- one of the dumps has the Write
abbrev pub IsHeld : List (List Write) → Write → Type 0
IsHeld dumps write = (server : ℕ) × Contains (dump_of dumps server) write

-- the operation told its session of the Write: it read a database that has it, or wrote it
abbrev pub Tells : List Write → What → Write → Type 0
Tells dump (whats.Read key vector) write = (database : List Write) × IsReadFrom dump (whats.Read key vector) database × Contains database write
Tells dump (whats.Write wid stamp deps) write = IsWriteOf dump (whats.Write wid stamp deps) write
Tells dump whats.Refused write = ⊥

-- the operation was served by the server of this dump, or was refused
abbrev pub IsServed : List Write → What → Type 0
IsServed dump (whats.Read key vector) = (database : List Write) × IsReadFrom dump (whats.Read key vector) database
IsServed dump (whats.Write wid stamp deps) = (write : Write) × IsWriteOf dump (whats.Write wid stamp deps) write × (write.stamp ≡ stamp)
IsServed dump whats.Refused = Unit {0}

-- The operation demands the earlier Write at this server, and it fails there: it was read from a database that lacks it; or some
-- database has the later Write and lacks the earlier one, or has them in the other order.
abbrev pub Lacks : List (List Write) → (home : ℕ) → What → (server : ℕ) → Write → Type 0
Lacks dumps home (whats.Read key vector) server earlier = (home ≡ server)
    × ((database : List Write) × IsReadFrom (dump_of dumps server) (whats.Read key vector) database × ¬ Contains database earlier)
Lacks dumps home (whats.Write wid stamp deps) server earlier = (later : Write) × IsWriteOf (dump_of dumps home) (whats.Write wid stamp deps) later
    × ((database : List Write) × IsFrontOf (dump_of dumps server) database × ¬ PrecedesIn database earlier later)
Lacks dumps home whats.Refused server earlier = ⊥

-- the later operation lacks at this server a Write of this name, of which the earlier one told
abbrev pub Fails : List (List Write) → Entry → Entry → (server : ℕ) → Wid → Type 0
Fails dumps first second server wid = (earlier : Write) × Tells (dump_of dumps first.server.index) first.what earlier × (earlier.wid ≡ wid)
    × Lacks dumps second.server.index second.what server earlier

-- the guarantee speaks of such an operation as the earlier one
abbrev pub is_first : Guarantee → What → Bool
is_first guarantees.ReadYourWrites (whats.Write wid stamp deps) = true
is_first guarantees.MonotonicReads (whats.Read key vector) = true
is_first guarantees.WritesFollowReads (whats.Read key vector) = true
is_first guarantees.MonotonicWrites (whats.Write wid stamp deps) = true
is_first guarantee what = false

-- and of such an operation as the later one
abbrev pub is_second : Guarantee → What → Bool
is_second guarantees.ReadYourWrites (whats.Read key vector) = true
is_second guarantees.MonotonicReads (whats.Read key vector) = true
is_second guarantees.WritesFollowReads (whats.Write wid stamp deps) = true
is_second guarantees.MonotonicWrites (whats.Write wid stamp deps) = true
is_second guarantee what = false

-- the need counts the Write, and its last stamp isn't before the Write's
pub record IsNeeded (need : Need) (write : Write) : Type 0 where
  pub counted : Covers need.counts write.wid.origin.index write.wid.seq
  pub up_to : IsUpTo need.last write.stamp

-- the stamp is before that one, where there is one
abbrev pub IsBeforeAll : Stamp → Option Stamp → Type 0
IsBeforeAll stamp None = Unit {0}
IsBeforeAll stamp (Some next) = is_before stamp next ≡ true

-- the demand is met by the Write: it is counted, and before the later Write, if there is one
pub record IsMet (demand : Demand) (write : Write) : Type 0 where
  pub counted : Covers demand.counts write.wid.origin.index write.wid.seq
  pub in_order : IsBeforeAll write.stamp demand.next

-- what the operation demands at the server, if anything, of the Writes that are held
abbrev pub IsDemandOf : List (List Write) → (home : ℕ) → What → (server : ℕ) → Option Demand → Type 0
IsDemandOf dumps home what server None = (write : Write) → IsHeld dumps write → ¬ Lacks dumps home what server write
IsDemandOf dumps home what server (Some demand) = (write : Write) → IsHeld dumps write → Lacks dumps home what server write ↔ ¬ IsMet demand write

-- what a Write of this name and stamp demands where this is the dump: where it stands, all that is there up to it
abbrev pub IsWriteDemand : List Write → Wid → Stamp → Option Demand → Type 0
IsWriteDemand dump wid stamp None = All (λ write. write.wid ≢ wid) dump
IsWriteDemand dump wid stamp (Some demand) = (place : ℕ) × (write : Write) × (slice_get dump place ≡ Some write) × (write.wid ≡ wid)
    × (demand.counts ≡ count_of (take (place + 1) dump)) × (demand.next ≡ Some stamp)

-- what names are ordered by
abbrev pub wid_key : Wid → List ℕ
wid_key wid = wid.origin.index ∷ wid.seq ∷ []

-- it is one of the names, and no lesser than either
abbrev pub IsLesser : Option Wid → Wid → Wid → Type 0
IsLesser None wid result = result ≡ wid
IsLesser (Some least) wid result = ((result ≡ least) × (is_less (wid_key wid) (wid_key least) ≡ false))
    ⊎ ((result ≡ wid) × (is_less (wid_key least) (wid_key wid) ≡ false))

-- the operation's own vector or name counts the Write as told of
abbrev pub IsTold : What → Write → Type 0
IsTold (whats.Read key vector) write = Covers vector write.wid.origin.index write.wid.seq
IsTold (whats.Write wid stamp deps) write = write.wid ≡ wid
IsTold whats.Refused write = ⊥

-- the least name of those of the Writes that the operation told of and that don't meet the demand, if there is one
abbrev pub IsLeastUnmet : List Write → What → Demand → Option Wid → Type 0
IsLeastUnmet writes what demand None = All (λ write. IsTold what write → IsMet demand write) writes
IsLeastUnmet writes what demand (Some wid) = ((write : Write) × Contains writes write × IsTold what write × (write.wid ≡ wid) × ¬ IsMet demand write)
    × All (λ write. IsTold what write → ¬ IsMet demand write → is_less (wid_key write.wid) (wid_key wid) ≡ false) writes

-- the least name with which two operations have a fault at the server, if there is one
abbrev pub IsLeastAt : List (List Write) → Entry → Entry → ℕ → Option Wid → Type 0
IsLeastAt dumps first second server None = (wid : Wid) → ¬ Fails dumps first second server wid
IsLeastAt dumps first second server (Some wid) = Fails dumps first second server wid
    × ((other : Wid) → Fails dumps first second server other → is_less (wid_key other) (wid_key wid) ≡ false)

-- what faults are ordered by
abbrev pub fault_key : Fault → List ℕ
fault_key fault = fault.server.index ∷ wid_key fault.wid

-- the least fault of two operations, if there is one
abbrev pub IsLeastFault : List (List Write) → Entry → Entry → Option Fault → Type 0
IsLeastFault dumps first second None = (server : ℕ) (wid : Wid) → ¬ Fails dumps first second server wid
IsLeastFault dumps first second (Some fault) = Fails dumps first second fault.server.index fault.wid
    × ((server : ℕ) (wid : Wid) → Fails dumps first second server wid → is_less (server ∷ wid_key wid) (fault_key fault) ≡ false)

-- it is of the session and such an earlier operation
pub record IsFirst (guarantee : Guarantee) (session : ℕ) (entry : Entry) : Type 0 where
  pub session_is : entry.session.index ≡ session
  pub kind : is_first guarantee entry.what ≡ true

-- it is of the session and such a later operation
pub record IsSecond (guarantee : Guarantee) (session : ℕ) (entry : Entry) : Type 0 where
  pub session_is : entry.session.index ≡ session
  pub kind : is_second guarantee entry.what ≡ true

-- the later operation lacks nothing that one of these told its session of
abbrev pub IsKept : List (List Write) → Guarantee → ℕ → List Entry → Entry → Type 0
IsKept dumps guarantee session earlier second = All (λ first. IsFirst guarantee session first → (server : ℕ) (wid : Wid) → ¬ Fails dumps first second server wid) earlier

-- the need has all that those of the entries told their session of
abbrev pub IsNeedOf : List (List Write) → Guarantee → ℕ → List Entry → Need → Type 0
IsNeedOf dumps guarantee session entries need = All (λ first. IsFirst guarantee session first
    → (write : Write) → Tells (dump_of dumps first.server.index) first.what write → IsNeeded need write) entries

-- The breach is that of the two operations with their least fault.
pub record IsBreachOfBoth (dumps : List (List Write)) (guarantee : Guarantee) (session : ℕ) (first second : Entry) (breach : Breach) : Type 0 where
  pub first_is : IsFirst guarantee session first
  pub fault : IsLeastFault dumps first second (Some (record { server = breach.server; wid = breach.wid }))
  pub guarantee_is : breach.guarantee ≡ guarantee
  pub session_is : breach.session.index ≡ session
  pub first_place : breach.first ≡ first.place
  pub second_place : breach.second ≡ second.place

-- the breach of two operations, if the guarantee speaks of the earlier one and they have a fault
abbrev pub IsBreachWith : List (List Write) → Guarantee → ℕ → Entry → Entry → Option Breach → Type 0
IsBreachWith dumps guarantee session first second None = IsFirst guarantee session first → (server : ℕ) (wid : Wid) → ¬ Fails dumps first second server wid
IsBreachWith dumps guarantee session first second (Some breach) = IsBreachOfBoth dumps guarantee session first second breach

-- The breach is that of the entry at this place with the first of those before it with which it has a fault, and of that
-- the least.
pub record IsBreachAt (dumps : List (List Write)) (entries : List Entry) (guarantee : Guarantee) (session at : ℕ) (breach : Breach) : Type 0 where
  pub place : ℕ
  pub first : Entry
  pub second : Entry
  pub first_at : slice_get entries place ≡ Some first
  pub second_at : slice_get entries at ≡ Some second
  pub before : place < at
  pub second_is : IsSecond guarantee session second
  pub both : IsBreachOfBoth dumps guarantee session first second breach
  pub none_before : IsKept dumps guarantee session (take place entries) second

-- none of the entries before this place breaks the guarantee in the session
abbrev pub AreKeptTo : List (List Write) → List Entry → Guarantee → (session upto : ℕ) → Type 0
AreKeptTo dumps entries guarantee session upto = (at : ℕ) (second : Entry) → at < upto → slice_get entries at ≡ Some second
    → IsSecond guarantee session second → IsKept dumps guarantee session (take at entries) second

-- the first breach of the guarantee in the session; or none, where the entries before this place have none
abbrev pub IsFirstBreach : List (List Write) → List Entry → Guarantee → (session upto : ℕ) → Option Breach → Type 0
IsFirstBreach dumps entries guarantee session upto None = AreKeptTo dumps entries guarantee session upto
IsFirstBreach dumps entries guarantee session upto (Some breach) = (at : ℕ) × AreKeptTo dumps entries guarantee session at
    × IsBreachAt dumps entries guarantee session at breach

-- the breach of the entry at this place, if there is one
abbrev pub IsBreachOf : List (List Write) → List Entry → Guarantee → (session at : ℕ) → Entry → Option Breach → Type 0
IsBreachOf dumps entries guarantee session at second None = IsKept dumps guarantee session (take at entries) second
IsBreachOf dumps entries guarantee session at second (Some breach) = IsBreachAt dumps entries guarantee session at breach

-- the breach of the entry at this place, if it is such a later operation of the session and has one
abbrev pub IsBreachFor : List (List Write) → List Entry → Guarantee → (session at : ℕ) → Entry → Option Breach → Type 0
IsBreachFor dumps entries guarantee session at second None = IsSecond guarantee session second → IsKept dumps guarantee session (take at entries) second
IsBreachFor dumps entries guarantee session at second (Some breach) = IsBreachAt dumps entries guarantee session at breach

-- just the entries before this place that break the guarantee in the session, in their order, each with its breach
pub record AreFoundTo (dumps : List (List Write)) (entries : List Entry) (guarantee : Guarantee) (session upto : ℕ) (list : List Breach) : Type 0 where
  pub each : All (λ breach. (at : ℕ) × (at < upto) × IsBreachAt dumps entries guarantee session at breach) list
  pub every : (at : ℕ) (second : Entry) → at < upto → slice_get entries at ≡ Some second → IsSecond guarantee session second
      → IsKept dumps guarantee session (take at entries) second ⊎ Any (IsBreachAt dumps entries guarantee session at) list
  pub in_order : AllPairs (λ a b. a.second < b.second) list
