-- What a reopening leaves, by what the journal found.
use Rattle.std.specs.Prelude.{Bool, true, IfSome, IsSome, is_some, not}
use Rattle.std.proofs.Common.{◌≡◌, ℕ, ◌≤◌, ◌<◌, List, [], ◌∷◌, ◌++◌, Option, None, Some, Err, false, inl, inr, length, refl, sym, ◌∙◌, ap, subst, arith}
use Rattle.bayou_base.specs.declared.limits.TheConstants.{MAX_WRITES}
use Rattle.bayou_journal.specs.declared.fault.OpenFault.{OpenFault}
use Rattle.bayou_journal.specs.declared.fault.OpenFault.TheVariants as opening
use Rattle.bayou_journal.specs.Journal.{JournalState}
use Rattle.bayou_journal.specs.Opened.{Found}
use Rattle.bayou_journal.specs.Opening.{HasOpened, HasRefused}
use Rattle.bayou_journal.specs.Versions.{Body}
use Rattle.bayou_lang.specs.declared.write.Write.{Write}
use Rattle.bayou_log.specs.Log.{Log, IsReserved}
use Rattle.bayou_tags.specs.Tags.{TagList}
use Rattle.bayou_server.specs.declared.holding.Holding.{Holding}
use Rattle.bayou_server.specs.declared.fault.ReopenFault.{ReopenFault}
use Rattle.bayou_server.specs.declared.fault.ReopenFault.TheVariants.{NotDown, Journal, Lost, BadRecord, OutOfMemory}
use Rattle.bayou_server.specs.Faults.{reopen_fault}
use Rattle.bayou_server.specs.Inner.Fields.{AreInDoubt, BelongTogether, Stands, core_of}
use Rattle.bayou_server.specs.Reopens.{Reopens}
use Rattle.bayou_server.specs.Inner.Replaying.{AreOthers, AreOthersAmid}
use Rattle.bayou_server.specs.Server.{Core, IsDown, IsSoundServer, MayBeInDoubt, ServerState}
use Rattle.bayou_server.specs.Stored.{HasNoFront, HasOther, OpensWith, ReopensJournal, Stores}
use Rattle.bayou_server.proofs.Beside.{records-push}
use Rattle.bayou_device.specs.declared.device.Device.{Ghosts}

-- the journal's refusal
pub stays_refused : (core : Core) (fault : OpenFault) → IsDown core → Reopens core (Err (reopen_fault fault)) core
stays_refused core opening.Device down = (down, refl)
stays_refused core opening.NotAJournal down = (down, refl)
stays_refused core opening.OtherServer down = (down, refl)
stays_refused core opening.OutOfMemory down = (down, refl)

pub journal_refuses : {D : Type 0} (d : Ghosts D) (old new : ServerState D) (fault : OpenFault) → HasRefused d old.core.id old.device new.device fault
    → ReopensJournal d old (Err (reopen_fault fault)) new
journal_refuses d old new opening.Device refused = refused
journal_refuses d old new opening.NotAJournal refused = refused
journal_refuses d old new opening.OtherServer refused = refused
journal_refuses d old new opening.OutOfMemory refused = inl refused

-- the journal was opened
pub opens_with : {D : Type 0} (d : Ghosts D) (server id : ℕ) (old new : D) (found : Found) (last : List ℕ) → server ≡ id → HasOpened d server old new found last
    → OpensWith d id old new found.bodies last
opens_with d server id old new found last owner has =
    let whole : OpensWith d server old new found.bodies last = record {
      dropped = found.dropped;
      opened = record {
        records = has.records;
        known = has.known;
        sizes = has.sizes;
        finds = has.finds;
        tells = has.tells;
        leaves = has.leaves;
        synced = has.synced;
        ends = has.ends;
        counts = has.counts;
      };
    } in
    subst (λ (s : ℕ). OpensWith d s old new found.bodies last) owner whole

-- it has other bodies than it may
pub stays_other : (core : Core) (doubt : Write) (bodies : List Body) (fault : ReopenFault) → core.doubt ≡ Some doubt → AreOthers core doubt bodies fault → Reopens core (Err fault) core
stays_other core doubt bodies NotDown down have = absurd have
stays_other core doubt bodies (Journal fault) down have = absurd have
stays_other core doubt bodies Lost down have = (subst IsSome (sym down) refl, refl)
stays_other core doubt bodies (BadRecord at) down have = (subst IsSome (sym down) refl, have.0, refl)
stays_other core doubt bodies OutOfMemory down have = (subst IsSome (sym down) refl, refl)

-- where no other is in doubt, what isn't of the Write in doubt is of no front
pub no_front_alone : (core : Core) (doubt : Write) (taking : List Write) (bodies : List Body) → length core.tags ≡ length core.held → taking ≡ [] → HasOther core doubt bodies → HasNoFront core doubt taking bodies
no_front_alone core doubt taking bodies same none other [] behind split stores =
    other.not_adopted (subst (Stores core.id bodies) (sym (records-push core.held core.tags doubt core.doubt_tag same)) stores)
no_front_alone core doubt taking bodies same none other (write ∷ front) behind split stores = absurd (omega (arith, ap length split, ap length none))

pub others_refused : {D : Type 0} (d : Ghosts D) (old new : ServerState D) (doubt : Write) (bodies : List Body) (fault : ReopenFault) → length old.core.tags ≡ length old.core.held → old.taking ≡ []
    → old.core.doubt ≡ Some doubt → OpensWith d old.core.id old.device new.device bodies new.last → AreOthers old.core doubt bodies fault → ReopensJournal d old (Err fault) new
others_refused d old new doubt bodies NotDown same none down opened have = absurd have
others_refused d old new doubt bodies (Journal fault) same none down opened have = absurd have
others_refused d old new doubt bodies Lost same none down opened have = (bodies, opened, have)
others_refused d old new doubt bodies (BadRecord at) same none down opened have = (doubt, down, (bodies, opened, have.1, no_front_alone old.core doubt old.taking bodies same none have.1))
others_refused d old new doubt bodies OutOfMemory same none down opened have = inr (bodies, opened)

-- where others are
pub others_refused_amid : {D : Type 0} (d : Ghosts D) (old new : ServerState D) (doubt : Write) (bodies : List Body) (fault : ReopenFault) → old.core.doubt ≡ Some doubt
    → OpensWith d old.core.id old.device new.device bodies new.last → AreOthersAmid old.core doubt old.taking bodies fault → ReopensJournal d old (Err fault) new
others_refused_amid d old new doubt bodies NotDown down opened have = absurd have
others_refused_amid d old new doubt bodies (Journal fault) down opened have = absurd have
others_refused_amid d old new doubt bodies Lost down opened have = (bodies, opened, have)
others_refused_amid d old new doubt bodies (BadRecord at) down opened have = (doubt, down, (bodies, opened, have.1, have.2))
others_refused_amid d old new doubt bodies OutOfMemory down opened have = inr (bodies, opened)

pub stays_other_amid : (core : Core) (doubt : Write) (taking : List Write) (bodies : List Body) (fault : ReopenFault) → core.doubt ≡ Some doubt → AreOthersAmid core doubt taking bodies fault → Reopens core (Err fault) core
stays_other_amid core doubt taking bodies NotDown down have = absurd have
stays_other_amid core doubt taking bodies (Journal fault) down have = absurd have
stays_other_amid core doubt taking bodies Lost down have = (subst IsSome (sym down) refl, refl)
stays_other_amid core doubt taking bodies (BadRecord at) down have = (subst IsSome (sym down) refl, have.0, refl)
stays_other_amid core doubt taking bodies OutOfMemory down have = (subst IsSome (sym down) refl, refl)

-- the Write in doubt, where one is
pub the_doubt : (doubt : Option Write) (none : Bool) → is_some doubt ≡ not none → none ≡ false → (write : Write) × (doubt ≡ Some write)
the_doubt None none is down = absurd cc
the_doubt (Some write) none is down = (write, refl)

-- it may be held next
pub doubted_may : {D : Type 0} (journal : JournalState D) (holding : Holding) (id : ℕ) (write : Write) → BelongTogether journal holding id → holding.doubt ≡ Some write
    → MayBeInDoubt id holding.log.count holding.log.limit holding.log.receipts write
doubted_may journal holding id write together is = subst (λ (d : Option Write). IfSome d (MayBeInDoubt id holding.log.count holding.log.limit holding.log.receipts)) is together.sound.doubted

-- and there is room for it, and for its tag
pub doubted_is_reserved : {D : Type 0} (journal : JournalState D) (holding : Holding) (id : ℕ) (write : Write) → BelongTogether journal holding id → holding.doubt ≡ Some write → holding.together ≡ false
    → IsReserved holding.log.room write × (0 < holding.tags.room)
doubted_is_reserved journal holding id write together is none = (subst (λ (d : Option Write). Stands journal holding d) is together.stands) none

core_by : Log → TagList → Option Write → ℕ → Core
core_by log tags doubt id = record { id = id; count = log.count; limit = log.limit; held = log.receipts; tags = tags.tags; doubt = doubt; doubt_tag = tags.coming }

-- the core once the Write in doubt was adopted
pub adopted_core : (holding after : Holding) (id : ℕ) (write : Write) → after.doubt ≡ None
    → after.log ≡ record holding.log { receipts = holding.log.receipts ++ write ∷ []; room = after.log.room; waiting = 0 }
    → after.tags ≡ record holding.tags { tags = holding.tags.tags ++ holding.tags.coming ∷ []; coming = None; room = after.tags.room }
    → core_of after id ≡ record (core_of holding id) { held = holding.log.receipts ++ write ∷ []; tags = holding.tags.tags ++ holding.tags.coming ∷ []; doubt = None; doubt_tag = None }
unfolding core_by
adopted_core holding after id write none log_is tags_is =
    ap (λ (l : Log). core_by l after.tags after.doubt id) log_is
    ∙ ap (λ (t : TagList). record (core_by holding.log t after.doubt id) { held = holding.log.receipts ++ write ∷ [] }) tags_is
    ∙ ap (λ (d : Option Write). record (core_by holding.log holding.tags d id) { held = holding.log.receipts ++ write ∷ []; tags = holding.tags.tags ++ holding.tags.coming ∷ []; doubt_tag = None }) none

-- and once it was forgotten
pub forgotten_core : (holding after : Holding) (id : ℕ) → after.doubt ≡ None → after.log ≡ holding.log → after.tags ≡ record holding.tags { coming = None }
    → core_of after id ≡ record (core_of holding id) { doubt = None; doubt_tag = None }
unfolding core_by
forgotten_core holding after id none log_is tags_is =
    ap (λ (l : Log). core_by l after.tags after.doubt id) log_is
    ∙ ap (λ (t : TagList). core_by holding.log t after.doubt id) tags_is
    ∙ ap (λ (d : Option Write). record (core_by holding.log holding.tags d id) { doubt_tag = None }) none

-- the fields still belong together once the server is up again
pub up_again : {D : Type 0} (journal new : JournalState D) (holding after : Holding) (id : ℕ) → BelongTogether journal holding id
    → new ≡ record journal { device = new.device; last = new.last; is_down = false } → after.log.limit ≡ holding.log.limit → after.doubt ≡ None → after.taking.items ≡ [] → after.together ≡ false
    → IsSoundServer (core_of after id) → BelongTogether new after id
up_again {D} journal new holding after id together new_is limit none empty alone sound = record {
  owner = ap (λ (j : JournalState D). j.server) new_is ∙ together.owner;
  limit = subst (λ (n : ℕ). n ≤ MAX_WRITES) (sym limit) together.limit;
  sound = sound;
  stands = subst (λ (d : Option Write). Stands new after d) (sym none) (ap (λ (j : JournalState D). j.is_down) new_is);
  doubts = subst (λ (d : Option Write). AreInDoubt (core_of after id) d after.together after.taking.items) (sym none) (empty, alone);
}

-- the two that are in doubt are one
pub same_doubt : (doubt taken : Option Write) (one other : Write) → doubt ≡ Some one → taken ≡ doubt → taken ≡ Some other → one ≡ other
same_doubt doubt taken one other is value taken_is = let both : Some one ≡ Some other = sym is ∙ sym value ∙ taken_is in cc

-- behind a Write in doubt that was being stored alone is none
pub none_behind : (core : Core) (doubt : Option Write) (together : Bool) (taking : List Write) → AreInDoubt core doubt together taking → together ≡ false → taking ≡ []
none_behind core None together taking are alone = are.0
none_behind core (Some first) false taking are alone = are
none_behind core (Some first) true taking are alone = absurd cc
