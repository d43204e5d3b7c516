-- How the fields of a server belong together, which its callers don't see.
use Rattle.std.specs.Prelude.{◌≡◌, ◌≤◌, ◌<◌, ℕ, Bool, true, false, List, [], ◌∷◌, Option, None, Some}
use Rattle.bayou_base.specs.declared.limits.TheConstants.{MAX_WRITES}
use Rattle.bayou_journal.specs.Journal.{JournalState}
use Rattle.bayou_lang.specs.declared.write.Write.{Write}
use Rattle.bayou_log.specs.Log.{IsReserved}
use Rattle.bayou_server.specs.declared.holding.Holding.{Holding}
use Rattle.bayou_server.specs.Server.{Core, IsSoundServer, ServerState}
use Rattle.bayou_server.specs.Several.{AreTakable}

abbrev pub core_of : Holding → (id : ℕ) → Core
core_of holding id = record {
  id = id;
  count = holding.log.count;
  limit = holding.log.limit;
  held = holding.log.receipts;
  tags = holding.tags.tags;
  doubt = holding.doubt;
  doubt_tag = holding.tags.coming;
}

abbrev pub server_of : {D : Type 0} → JournalState D → Holding → (id : ℕ) → ServerState D
server_of journal holding id = record { core = core_of holding id; device = journal.device; last = journal.last; taking = holding.taking.items }

-- While it is up, so is its journal. While it is down nothing is known of the journal. Where the Write in doubt was being stored alone,
-- there is room for it and for its tag, be it the server's own or another's.
abbrev pub Stands : {D : Type 0} → JournalState D → Holding → Option Write → Type 0
Stands journal holding None = journal.is_down ≡ false
Stands journal holding (Some write) = holding.together ≡ false → IsReserved holding.log.room write × (0 < holding.tags.room)

-- the server, once nothing is in doubt
abbrev pub forgetting : Core → Core
forgetting core = record core { doubt = None; doubt_tag = None }

-- Those in doubt that were being stored together might be taken, one after another. After one that was being stored alone is none.
abbrev pub AreInDoubt : Core → Option Write → (together : Bool) → (taking : List Write) → Type 0
AreInDoubt core None together taking = (taking ≡ []) × (together ≡ false)
AreInDoubt core (Some first) false taking = taking ≡ []
AreInDoubt core (Some first) true taking = (core.doubt_tag ≡ None) × AreTakable (forgetting core) (first ∷ taking)

-- The journal is the server's, its log is what it may hold, and they stand as the Write in doubt says. So it is also between two of
-- several Writes that are taken, where some may wait to be applied.
pub record BelongTogether {D : Type 0} (journal : JournalState D) (holding : Holding) (id : ℕ) : Type 0 where
  pub owner : journal.server ≡ id
  pub limit : holding.log.limit ≤ MAX_WRITES
  pub sound : IsSoundServer (core_of holding id)
  pub stands : Stands journal holding holding.doubt
  pub doubts : AreInDoubt (core_of holding id) holding.doubt holding.together holding.taking.items
