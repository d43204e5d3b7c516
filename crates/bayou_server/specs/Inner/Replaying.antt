-- What a server makes of the bodies of its journal, one after another, which its callers don't see.
use Rattle.std.specs.Prelude.{◌≡◌, ◌⊎◌, ◌+◌, ◌<◌, ◌≤◌, ℕ, List, All, Bool, true, false, [], ◌∷◌, ◌++◌, Option, None, Some, length, slice_get, take}
use Rattle.bayou_base.specs.declared.wid.Wid.{Wid}
use Rattle.bayou_journal.specs.Versions.{Body}
use Rattle.bayou_lang.specs.declared.write.Write.{Write}
use Rattle.bayou_log.specs.Log.{Log}
use Rattle.bayou_lang.specs.Ranges.{IsWrite}
use Rattle.bayou_tags.specs.Tags.{TagList}
use Rattle.bayou_wire.specs.declared.record.Record.{Record}
use Rattle.bayou_server.specs.declared.fault.ReopenFault.{ReopenFault}
use Rattle.bayou_server.specs.declared.fault.ReopenFault.TheVariants.{NotDown, Journal, Lost, BadRecord, OutOfMemory}
use Rattle.bayou_server.specs.declared.holding.Holding.{Holding}
use Rattle.bayou_server.specs.Inner.Fields.{core_of}
use Rattle.bayou_server.specs.Reopens.{RecoversAll}
use Rattle.bayou_server.specs.Starts.{IsNewRecord}
use Rattle.bayou_server.specs.Stored.{BeginsWithHeld, HasNoFront, HasOther, Stores, doubts_of, records_with_doubt}
use Rattle.bayou_server.specs.Server.{AreTags, Core, IsSoundServer, MayFollow, MayHold, records, records_of}

-- the body stands for the record, whose Write and tag may be added
pub record IsAdmitted (id : ℕ) (log : Log) (tags : TagList) (body : Body) (stored : Record) : Type 0 where
  pub new : IsNewRecord id tags.tags body stored
  pub follows : MayFollow id log.count log.receipts stored.write
  pub room : length log.receipts < log.limit

-- the Write and the tag that the body stands for may follow those that are held, and are added after them
pub record IsAdded (id : ℕ) (old : Holding) (body : Body) (new : Holding) : Type 0 where
  pub stored : Record
  pub admitted : IsAdmitted id old.log old.tags body stored
  pub log : new.log ≡ record old.log { receipts = old.log.receipts ++ stored.write ∷ []; room = new.log.room; waiting = new.log.waiting }
  pub tags : new.tags ≡ record old.tags { tags = old.tags.tags ++ stored.tag ∷ []; room = new.tags.room }
  pub doubt : new.doubt ≡ old.doubt
  pub taking : new.taking ≡ old.taking
  pub together : new.together ≡ old.together

-- exactly the Writes and the tags are held that the bodies stand for, and none is in doubt, or waits to be applied
pub record Replays (id count limit : ℕ) (bodies : List Body) (holding : Holding) : Type 0 where
  pub whole : Stores id bodies (records holding.log.receipts holding.tags.tags)
  pub spelled : All IsWrite holding.log.receipts
  pub holds : MayHold id count limit holding.log.receipts
  pub tagged : AreTags id holding.log.receipts holding.tags.tags
  pub nothing_comes : holding.tags.coming ≡ None
  pub no_doubt : holding.doubt ≡ None
  pub none_behind : holding.taking.items ≡ []
  pub alone : holding.together ≡ false
  pub same_count : holding.log.count ≡ count
  pub same_limit : holding.log.limit ≡ limit
  pub caught_up : holding.log.waiting ≡ 0

-- what the bodies are: those of what is held and of the Write in doubt, or those of what is held alone
abbrev pub AreHeldAnd : Core → (doubt : Write) → List Body → Bool → Type 0
AreHeldAnd core doubt bodies true = Stores core.id bodies (records_with_doubt core doubt)
AreHeldAnd core doubt bodies false = Stores core.id bodies (records_of core)

-- or what else
abbrev pub AreOthers : Core → (doubt : Write) → List Body → ReopenFault → Type 0
AreOthers core doubt bodies NotDown = ⊥
AreOthers core doubt bodies (Journal fault) = ⊥
AreOthers core doubt bodies Lost = ¬ BeginsWithHeld core.id (records_of core) bodies
AreOthers core doubt bodies (BadRecord at) = (at ≡ length core.held) × HasOther core doubt bodies
AreOthers core doubt bodies OutOfMemory = Unit {0}

-- of the Writes in doubt so many stand after those of what is held
abbrev pub AreHeldAndSome : Core → (doubt : Write) → (taking : List Write) → List Body → ℕ → Type 0
AreHeldAndSome core doubt taking bodies number =
    ((number ≡ 0) × Stores core.id bodies (records_of core))
    ⊎ ((more : ℕ) × (number ≡ more + 1) × (more ≤ length taking) × Stores core.id bodies (records_of core ++ doubts_of core doubt (take more taking)))

-- or what else
abbrev pub AreOthersAmid : Core → (doubt : Write) → (taking : List Write) → List Body → ReopenFault → Type 0
AreOthersAmid core doubt taking bodies NotDown = ⊥
AreOthersAmid core doubt taking bodies (Journal fault) = ⊥
AreOthersAmid core doubt taking bodies Lost = ¬ BeginsWithHeld core.id (records_of core) bodies
AreOthersAmid core doubt taking bodies (BadRecord at) = (at ≡ length core.held) × HasOther core doubt bodies × HasNoFront core doubt taking bodies
AreOthersAmid core doubt taking bodies OutOfMemory = Unit {0}

-- the name of the first in doubt, where no other is adopted, or of the last of so many others
abbrev pub IsLastAdopted : (doubt : Write) → (taking : List Write) → (more : ℕ) → Wid → Type 0
IsLastAdopted doubt taking more wid = ((more ≡ 0) × (wid ≡ doubt.wid)) ⊎ ((at : ℕ) × (last : Write) × (more ≡ at + 1) × (slice_get taking at ≡ Some last) × (wid ≡ last.wid))

-- The server is up again, and holds exactly what the bodies stand for: nothing is in doubt, or waits to be applied.
pub record AreSettled (id : ℕ) (old : Holding) (bodies : List Body) (adopted : Option Wid) (new : Holding) : Type 0 where
  pub recovers : RecoversAll (core_of old id) old.taking.items adopted (core_of new id)
  pub sound : IsSoundServer (core_of new id)
  pub whole : Stores id bodies (records_of (core_of new id))
  pub no_doubt : new.doubt ≡ None
  pub none_behind : new.taking.items ≡ []
  pub alone : new.together ≡ false
  pub same_limit : new.log.limit ≡ old.log.limit
  pub caught_up : new.log.waiting ≡ 0

-- or nothing has changed
abbrev pub AreUnsettled : (id : ℕ) → (old : Holding) → List Body → ReopenFault → (new : Holding) → Type 0
AreUnsettled id old bodies fault new = (new ≡ old) × ((doubt : Write) → old.doubt ≡ Some doubt → AreOthersAmid (core_of old id) doubt old.taking.items bodies fault)
