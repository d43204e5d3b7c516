-- How a Write is added: the entry behind those of the Writes held, and then the Write.
use Rattle.std.proofs.Common.{◌≡◌, ℕ, ◌≤◌, ◌<◌, List, [], ◌∷◌, ◌++◌, Option, None, Some, Result, Ok, Err, Bool, true, false, refl, sym, ◌∙◌, ap, subst}
use Rattle.std.specs.Prelude.{IsErrOf, OnOk, is_err, is_some}
use Rattle.bayou_base.specs.declared.limits.TheConstants.{MAX_WRITES}
use Rattle.bayou_base.specs.declared.tag.Tag.{Tag}
use Rattle.bayou_device.specs.Device.{Rose}
use Rattle.bayou_journal.specs.declared.fault.AppendFault.{AppendFault}
use Rattle.bayou_journal.specs.declared.fault.AppendFault.TheVariants as append
use Rattle.bayou_journal.specs.Chain.{IsBody, entry, link}
use Rattle.bayou_journal.specs.Honest.{HasJournal, added_body}
use Rattle.bayou_journal.specs.Journal.{JournalState}
use Rattle.bayou_journal.specs.Versions.{Body}
use Rattle.bayou_journal.specs.Opening.{FailsToAdd}
use Rattle.bayou_lang.specs.declared.write.Write.{Write}
use Rattle.bayou_log.specs.Log.{Log, IsReserved}
use Rattle.bayou_tags.specs.Tags.{TagList}
use Rattle.bayou_server.specs.declared.holding.Holding.{Holding}
use Rattle.bayou_server.specs.declared.storing.Stored.{Stored}
use Rattle.bayou_server.specs.declared.storing.Stored.TheVariants.{Held, InDoubt}
use Rattle.bayou_server.specs.Inner.Fields.{AreInDoubt, BelongTogether, Stands, core_of, server_of}
use Rattle.bayou_server.specs.Inner.Storing.{IsHeld, Settles, StaysStored, StoresEntry}
use Rattle.bayou_server.specs.Server.{Core, IsSoundServer, MayBeInDoubt, MayBeItsTag, ServerState, in_doubt, records, records_of}
use Rattle.bayou_server.specs.Stored.{HasAdded, IsBodyOf, IsStored, Stores}
use Rattle.bayou_server.proofs.Bodies.{both_more}
use Rattle.bayou_server.proofs.Beside.{one_each, records-push}
use Rattle.bayou_server.proofs.Steps.{no_doubt_tag, sound_doubting, sound_next}
use Rattle.bayou_device.specs.declared.device.Device.{Ghosts}

-- an append that fails is the device's fault, unless the journal was down
pub device_fault : (result : Result (Unit {0}) AppendFault) → is_err result ≡ true → (IsErrOf result append.Down → ⊥) → IsErrOf result append.Device
device_fault (Ok done) failed up = absurd cc
device_fault (Err append.Down) failed up = absurd (up refl)
device_fault (Err append.Device) failed up = refl

pub none_of : (doubt : Option Write) → is_some doubt ≡ false → doubt ≡ None
none_of None up = refl
none_of (Some write) up = absurd cc

-- while the server is up its journal is
pub stands_up : {D : Type 0} (journal : JournalState D) (holding : Holding) (id : ℕ) → BelongTogether journal holding id → holding.doubt ≡ None → journal.is_down ≡ false
stands_up journal holding id together up = subst (λ (d : Option Write). Stands journal holding d) up together.stands

-- and no Write is in doubt
pub alone_up : {D : Type 0} (journal : JournalState D) (holding : Holding) (id : ℕ) → BelongTogether journal holding id → holding.doubt ≡ None → (holding.taking.items ≡ []) × (holding.together ≡ false)
alone_up journal holding id together up = subst (λ (d : Option Write). AreInDoubt (core_of holding id) d holding.together holding.taking.items) up together.doubts

-- the fields belong together too once no Write waits
pub caught_up_together : {D : Type 0} (journal : JournalState D) (holding : Holding) (log : Log) (id : ℕ) → BelongTogether journal holding id → log ≡ record holding.log { waiting = 0 }
    → BelongTogether journal (record holding { log = log }) id × (log.waiting ≡ 0)
caught_up_together journal holding log id together is =
    subst (λ (l : Log). BelongTogether journal (record holding { log = l }) id × (l.waiting ≡ 0)) (sym is)
    (record { owner = together.owner; limit = together.limit; sound = together.sound; stands = by holding.doubt together.stands; doubts = together.doubts }, refl)
  where
    by : (doubt : Option Write) → Stands journal holding doubt → Stands journal (record holding { log = record holding.log { waiting = 0 } }) doubt
    by None stands = stands
    by (Some write) stands = stands

-- what an append told, and what it left
pub record Appends {D : Type 0} (d : Ghosts D) (journal new : JournalState D) (bytes : List ℕ) (result : Result (Unit {0}) AppendFault) : Type 0 where
  pub down : IsErrOf result append.Down → journal.is_down ≡ true
  pub added : d.is_modelled → OnOk result (d.content new.device ≡ d.content journal.device ++ entry journal.last bytes)
  pub synced : OnOk result (d.kept new.device ≡ d.content new.device)
  pub ends : OnOk result (new ≡ record journal { device = new.device; last = link journal.last bytes })
  pub counts : OnOk result (d.failures new.device ≡ d.failures journal.device)
  pub fault : IsErrOf result append.Device → new ≡ record journal { device = new.device; is_down = true }
  pub rose : IsErrOf result append.Device → Rose (d.failures journal.device) (d.failures new.device)
  pub left : d.is_modelled → IsErrOf result append.Device → FailsToAdd d.may_leave (entry journal.last bytes) (d.content journal.device) (d.content new.device)

-- the server that is up adds a Write that it may hold next, and the tag that may be its, or none, for which room was taken
pub record Adds {D : Type 0} (journal : JournalState D) (holding reserved : Holding) (id : ℕ) (tag : Option Tag) (made : Write) (bytes : List ℕ) : Type 0 where
  pub together : BelongTogether journal holding id
  pub up : holding.doubt ≡ None
  pub may : MayBeInDoubt id holding.log.count holding.log.limit holding.log.receipts made
  pub its : MayBeItsTag id holding.tags.tags (Some made) tag
  pub stands : IsBodyOf id (added_body bytes) (record { write = made; tag = tag })
  pub same_log : reserved.log ≡ record holding.log { room = reserved.log.room }
  pub same_tags : reserved.tags ≡ record holding.tags { coming = tag; room = reserved.tags.room }
  pub same_doubt : reserved.doubt ≡ holding.doubt
  pub same_taking : reserved.taking ≡ holding.taking
  pub same_together : reserved.together ≡ holding.together
  pub has_room : IsReserved reserved.log.room made
  pub has_place : 0 < reserved.tags.room

core_by : Log → TagList → Option Write → ℕ → Core
core_by log tags doubt id = record { id = id; count = log.count; limit = log.limit; held = log.receipts; tags = tags.tags; doubt = doubt; doubt_tag = tags.coming }

-- the core, once the Write is held
held_core : {D : Type 0} (journal : JournalState D) (holding reserved new : Holding) (id : ℕ) (tag : Option Tag) (made : Write) (bytes : List ℕ) → Adds journal holding reserved id tag made bytes → IsHeld reserved made new
    → core_of new id ≡ record (core_of holding id) { held = holding.log.receipts ++ made ∷ []; tags = holding.tags.tags ++ tag ∷ [] }
unfolding core_by
held_core journal holding reserved new id tag made bytes adds is =
    let none : holding.tags.coming ≡ None = no_doubt_tag (core_of holding id) adds.together.sound adds.up in
    ap (λ (l : Log). core_by l new.tags new.doubt id) is.log
    ∙ ap (λ (l : Log). core_by (record l { receipts = l.receipts ++ made ∷ []; room = new.log.room; waiting = new.log.waiting }) new.tags new.doubt id) adds.same_log
    ∙ ap (λ (t : TagList). record (core_by holding.log t new.doubt id) { held = holding.log.receipts ++ made ∷ [] }) is.tags
    ∙ ap (λ (t : TagList). record (core_by holding.log t new.doubt id) { held = holding.log.receipts ++ made ∷ []; tags = t.tags ++ t.coming ∷ []; doubt_tag = None }) adds.same_tags
    ∙ ap (λ (d : Option Write). record (core_by holding.log holding.tags d id) { held = holding.log.receipts ++ made ∷ []; tags = holding.tags.tags ++ tag ∷ []; doubt_tag = None }) (is.doubt ∙ adds.same_doubt)
    ∙ ap (λ (t : Option Tag). record (core_by holding.log holding.tags holding.doubt id) { held = holding.log.receipts ++ made ∷ []; tags = holding.tags.tags ++ tag ∷ []; doubt_tag = t }) (sym none)

-- and once it is in doubt
doubted_core : {D : Type 0} (journal : JournalState D) (holding reserved new : Holding) (id : ℕ) (tag : Option Tag) (made : Write) (bytes : List ℕ) → Adds journal holding reserved id tag made bytes
    → new ≡ record reserved { doubt = Some made } → core_of new id ≡ record (core_of holding id) { doubt = Some made; doubt_tag = tag }
unfolding core_by
doubted_core journal holding reserved new id tag made bytes adds is =
    ap (λ (h : Holding). core_of h id) is
    ∙ ap (λ (l : Log). core_by l reserved.tags (Some made) id) adds.same_log
    ∙ ap (λ (t : TagList). core_by holding.log t (Some made) id) adds.same_tags

-- an append that failed is the device's fault
fault_of : {D : Type 0} (d : Ghosts D) (journal new : JournalState D) (holding : Holding) (id : ℕ) (bytes : List ℕ) (reason : AppendFault)
    → BelongTogether journal holding id → holding.doubt ≡ None → Appends d journal new bytes (Err reason) → IsErrOf {T = Unit {0}} (Err reason) append.Device
fault_of d journal new holding id bytes reason together up appends =
    device_fault (Err reason) refl (λ down. absurd (let was = appends.down down in let is = stands_up journal holding id together up in cc))

pub settled_stores : {D : Type 0} (d : Ghosts D) (journal new : JournalState D) (holding reserved after : Holding) (id : ℕ) (tag : Option Tag) (made : Write) (bytes : List ℕ)
    (added : Result (Unit {0}) AppendFault) (result : Stored)
    → Adds journal holding reserved id tag made bytes → Appends d journal new bytes added → Settles reserved made added result after
    → StoresEntry d (server_of journal holding id) result (server_of new after id)
settled_stores {D} d journal new holding reserved after id tag made bytes (Ok done) Held adds appends settles =
    let core = held_core journal holding reserved after id tag made bytes adds settles in
    record {
      stored = record { write = made; tag = tag };
      held = ap (λ (c : Core). c.held) core;
      tags = ap (λ (c : Core). c.tags) core;
      added = entry journal.last bytes;
      entry_of = record { body = bytes; stands = adds.stands; is = refl };
      ends = ap (λ (j : JournalState D). j.last) appends.ends;
      behind = appends.added;
      synced = appends.synced;
      counts = appends.counts;
    }
settled_stores d journal new holding reserved after id tag made bytes (Err reason) InDoubt adds appends settles =
    let fault = fault_of d journal new holding id bytes reason adds.together adds.up appends in
    record {
      stored = record { write = made; tag = tag };
      doubt = ap (λ (c : Core). in_doubt c.doubt c.doubt_tag) (doubted_core journal holding reserved after id tag made bytes adds settles);
      added = entry journal.last bytes;
      entry_of = record { body = bytes; stands = adds.stands; is = refl };
      left = λ modelled. appends.left modelled fault;
      rose = appends.rose fault;
    }
settled_stores d journal new holding reserved after id tag made bytes (Ok done) InDoubt adds appends settles = absurd settles
settled_stores d journal new holding reserved after id tag made bytes (Err reason) Held adds appends settles = absurd settles

-- the limit is as it was
limit_stays : (holding reserved : Holding) → reserved.log ≡ record holding.log { room = reserved.log.room } → holding.log.limit ≤ MAX_WRITES → reserved.log.limit ≤ MAX_WRITES
limit_stays holding reserved same within = subst (λ (l : Log). l.limit ≤ MAX_WRITES) (sym same) within

pub settled_together : {D : Type 0} (d : Ghosts D) (journal new : JournalState D) (holding reserved after : Holding) (id : ℕ) (tag : Option Tag) (made : Write) (bytes : List ℕ)
    (added : Result (Unit {0}) AppendFault) (result : Stored)
    → Adds journal holding reserved id tag made bytes → Appends d journal new bytes added → Settles reserved made added result after
    → BelongTogether new after id
settled_together {D} d journal new holding reserved after id tag made bytes (Ok done) Held adds appends settles = record {
  owner = ap (λ (j : JournalState D). j.server) appends.ends ∙ adds.together.owner;
  limit = subst (λ (l : Log). l.limit ≤ MAX_WRITES) (sym settles.log) (limit_stays holding reserved adds.same_log adds.together.limit);
  sound = subst IsSoundServer (sym (held_core journal holding reserved after id tag made bytes adds settles))
      (sound_next (core_of holding id) made tag adds.together.sound adds.up adds.may adds.its);
  stands = subst (λ (o : Option Write). Stands new after o) (sym (settles.doubt ∙ adds.same_doubt ∙ adds.up))
      (ap (λ (j : JournalState D). j.is_down) appends.ends ∙ stands_up journal holding id adds.together adds.up);
  doubts = subst (λ (o : Option Write). AreInDoubt (core_of after id) o after.together after.taking.items) (sym (settles.doubt ∙ adds.same_doubt ∙ adds.up))
      (let alone = alone_up journal holding id adds.together adds.up in (
        ap (λ t. t.items) (settles.taking ∙ adds.same_taking) ∙ alone.0,
        settles.together ∙ adds.same_together ∙ alone.1,
      ));
}
settled_together {D} d journal new holding reserved after id tag made bytes (Err reason) InDoubt adds appends settles =
    let fault = appends.fault (fault_of d journal new holding id bytes reason adds.together adds.up appends) in
    record {
      owner = ap (λ (j : JournalState D). j.server) fault ∙ adds.together.owner;
      limit = subst (λ (h : Holding). h.log.limit ≤ MAX_WRITES) (sym settles) (limit_stays holding reserved adds.same_log adds.together.limit);
      sound = subst IsSoundServer (sym (doubted_core journal holding reserved after id tag made bytes adds settles))
          (sound_doubting (core_of holding id) made tag adds.together.sound adds.may adds.its);
      stands = subst (λ (h : Holding). Stands new h h.doubt) (sym settles) (λ none. (adds.has_room, adds.has_place));
      doubts = subst (λ (h : Holding). AreInDoubt (core_of h id) h.doubt h.together h.taking.items) (sym settles)
          (let alone = alone_up journal holding id adds.together adds.up in
          subst (λ (t : Bool). AreInDoubt (core_of (record reserved { doubt = Some made }) id) (Some made) t reserved.taking.items) (sym (adds.same_together ∙ alone.1))
          (ap (λ t. t.items) adds.same_taking ∙ alone.0));
    }
settled_together d journal new holding reserved after id tag made bytes (Ok done) InDoubt adds appends settles = absurd settles
settled_together d journal new holding reserved after id tag made bytes (Err reason) Held adds appends settles = absurd settles

-- what the journal's law says of one body more
abbrev pub OneBodyMore : Type 0
OneBodyMore = (server : ℕ) (bodies : List Body) (last bytes body : List ℕ) → HasJournal server bodies last bytes → IsBody body
    → HasJournal server (bodies ++ added_body body ∷ []) (link last body) (bytes ++ entry last body)

-- a device that had the journal of the Writes held has that of those and the new one
pub stored_after : {D : Type 0} (d : Ghosts D) → OneBodyMore → (old new : ServerState D) → d.is_modelled → IsSoundServer old.core → new.core.id ≡ old.core.id → (has : HasAdded d old new)
    → IsBody has.entry_of.body → IsStored d old → IsStored d new
stored_after {D} d law old new modelled sound same has is (bodies, stores, journal) =
    let one = has.entry_of in
    let id = old.core.id in
    let records_are : records_of new.core ≡ records_of old.core ++ has.stored ∷ [] =
    ap (λ (w : List Write). records w new.core.tags) has.held ∙ ap (λ (t : List (Option Tag)). records (old.core.held ++ has.stored.write ∷ []) t) has.tags
    ∙ records-push old.core.held old.core.tags has.stored.write has.stored.tag (one_each id old.core.held old.core.tags sound.tagged) in
    let held : Stores id (bodies ++ added_body one.body ∷ []) (records_of new.core) =
    subst (Stores id (bodies ++ added_body one.body ∷ [])) (sym records_are) (both_more (IsBodyOf id) bodies (records_of old.core) (added_body one.body) has.stored stores one.stands) in
    let more : HasJournal id (bodies ++ added_body one.body ∷ []) (link old.last one.body) (d.content old.device ++ entry old.last one.body) =
    law id bodies old.last (d.content old.device) one.body journal is in
    let content : d.content old.device ++ entry old.last one.body ≡ d.content new.device = sym (has.behind modelled ∙ ap (λ (l : List ℕ). d.content old.device ++ l) one.is) in (
      bodies ++ added_body one.body ∷ [],
      subst (λ (s : ℕ). Stores s (bodies ++ added_body one.body ∷ []) (records_of new.core)) (sym same) held,
      subst (λ (s : ℕ). HasJournal s (bodies ++ added_body one.body ∷ []) new.last (d.content new.device)) (sym same)
          (subst (λ (l : List ℕ). HasJournal id (bodies ++ added_body one.body ∷ []) l (d.content new.device)) (sym has.ends)
          (subst (λ (b : List ℕ). HasJournal id (bodies ++ added_body one.body ∷ []) (link old.last one.body) b) content more)),
    )

pub settled_stored : {D : Type 0} (d : Ghosts D) → OneBodyMore → (journal new : JournalState D) (holding reserved after : Holding) (id : ℕ) (tag : Option Tag) (made : Write) (bytes : List ℕ)
    (added : Result (Unit {0}) AppendFault) (result : Stored)
    → d.is_modelled → IsBody bytes → Adds journal holding reserved id tag made bytes → Appends d journal new bytes added → Settles reserved made added result after
    → StaysStored d (server_of journal holding id) result (server_of new after id)
unfolding settled_stores
settled_stored d law journal new holding reserved after id tag made bytes (Ok done) Held modelled is adds appends settles =
    stored_after d law (server_of journal holding id) (server_of new after id) modelled adds.together.sound refl
    (settled_stores d journal new holding reserved after id tag made bytes (Ok done) Held adds appends settles) is
settled_stored d law journal new holding reserved after id tag made bytes (Err reason) InDoubt modelled is adds appends settles = tt
settled_stored d law journal new holding reserved after id tag made bytes (Ok done) InDoubt modelled is adds appends settles = absurd settles
settled_stored d law journal new holding reserved after id tag made bytes (Err reason) Held modelled is adds appends settles = absurd settles
