-- Writes of other servers that were stored together, or are in doubt together.
use Rattle.std.proofs.Common.{◌≡◌, ◌⊎◌, inl, inr, ℕ, zero, suc, ◌+◌, ◌-◌, ◌<◌, ◌≤◌, false, true, List, [], ◌∷◌, ◌++◌, Option, None, Some, Result, Ok, Err, get_or, length, drop, map, take, replicate, refl, sym, ◌∙◌, ap, subst, arith, append_assoc, length-append}
use Rattle.std.specs.Prelude.{IsErrOf, OnOk, IfSome}
use Rattle.std.proofs.lemmas.List.{append-nil, length-replicate, replicate-append-replicate, take-append-le, take_all}
use Rattle.bayou_base.specs.declared.limits.TheConstants.{MAX_WRITES}
use Rattle.bayou_base.specs.declared.tag.Tag.{Tag}
use Rattle.bayou_base.specs.declared.wid.Wid.{Wid}
use Rattle.bayou_device.specs.Device.{Rose}
use Rattle.bayou_device.specs.declared.device.Device.{Ghosts}
use Rattle.bayou_journal.specs.Chain.{entries, last_link}
use Rattle.bayou_journal.specs.Honest.{added_body}
use Rattle.bayou_journal.specs.Journal.{JournalState}
use Rattle.bayou_journal.specs.Opening.{FailsToAdd, KeepsChains}
use Rattle.bayou_journal.specs.declared.fault.AppendFault.{AppendFault}
use Rattle.bayou_journal.specs.declared.fault.AppendFault.TheVariants as append
use Rattle.bayou_lang.specs.declared.write.Write.{Write}
use Rattle.bayou_log.specs.Log.{Log}
use Rattle.bayou_tags.specs.Tags.{TagList}
use Rattle.bayou_server.specs.declared.answer.RefusedWrite.{RefusedWrite}
use Rattle.bayou_server.specs.declared.answer.Took.{Took}
use Rattle.bayou_server.specs.declared.answer.Took.TheVariants.{New, Had}
use Rattle.bayou_server.specs.declared.answer.TookAll.{TookAll}
use Rattle.bayou_server.specs.declared.fault.TakeFault.{TakeFault}
use Rattle.bayou_server.specs.declared.fault.TakeFault.TheVariants.{Conflict, Down, OwnLost, Gap, BadStamp, LogFull, OutOfMemory, Journal}
use Rattle.bayou_server.specs.declared.holding.Holding.{Holding}
use Rattle.bayou_server.specs.Inner.Fields.{AreInDoubt, BelongTogether, Stands, core_of, forgetting, server_of}
use Rattle.bayou_server.specs.Inner.Gathering.{AreGathered, AreTakenBack, IsNoneLeft, IsToldAlone, told_one}
use Rattle.bayou_server.specs.Server.{Core, IsSoundServer, ServerState, untagged, with_all}
use Rattle.bayou_server.specs.Several.{AreTakable, HasAddedAll, HasFailedAll, StoresAll, StoresPieces, StoringStops, TakesHeld, left_behind, left_by}
use Rattle.bayou_server.specs.Stored.{Stores}
use Rattle.bayou_server.specs.Takes.{Takes}
use Rattle.bayou_server.specs.TakesAll.{TakesAll}
use Rattle.bayou_server.proofs.Adding.{alone_up, device_fault, stands_up}
use Rattle.bayou_server.proofs.Gathering.{all_new, gathered_core, hads_of, news_of, taken_each, takable_in_doubt, untagged_may}
use Rattle.bayou_server.proofs.Steps.{no_doubt_tag, own_of_taking, sound_doubting}

-- ---- what is taken back

-- the last of several with no tag
pub last_untagged : (front tags : List (Option Tag)) (number counter : ℕ) → counter < number → tags ≡ front ++ replicate (number - counter) None
    → tags ≡ (front ++ replicate (number - (counter + 1)) None) ++ None ∷ []
last_untagged front tags number counter more are =
    are ∙ ap (λ n. front ++ replicate n None) (omega (arith, more))
    ∙ ap (λ (l : List (Option Tag)). front ++ l) (sym (replicate-append-replicate (number - (counter + 1)) 1 None))
    ∙ sym (append_assoc front (replicate (number - (counter + 1)) None) (None ∷ []))

-- two lists of the same with as much behind them
pub same_split : {A : Type 0} (a b c d : List A) → a ++ b ≡ c ++ d → length b ≡ length d → (a ≡ c) × (b ≡ d)
same_split [] b [] d same size = (refl, same)
same_split [] b (y ∷ c) d same size = absurd (omega (arith, size, ap length same, length-append (y ∷ c) d))
same_split (x ∷ a) b [] d same size = absurd (omega (arith, size, ap length same, length-append (x ∷ a) b))
same_split {A} (x ∷ a) b (y ∷ c) d same size =
    let rest = same_split a b c d (ap (λ (l : List A). drop 1 l) same) size in
    (ap (λ (z : A). z ∷ a) (ap (λ (l : List A). get_or l 0 x) same) ∙ ap (λ (l : List A). y ∷ l) rest.0, rest.1)

core_by : Log → TagList → Option Write → ℕ → Core
core_by log tags doubt id = record { id = id; count = log.count; limit = log.limit; held = log.receipts; tags = tags.tags; doubt = doubt; doubt_tag = tags.coming }

-- what was gathered, and is taken back again
pub record BackAgain (id : ℕ) (old new : Holding) (given left : List Write) (bodies : List (List ℕ)) : Type 0 where
  pub first : Write
  pub doubt : new.doubt ≡ Some first
  pub split : given ≡ first ∷ (new.taking.items ++ left)
  pub takable : AreTakable (core_of old id) (first ∷ new.taking.items)
  pub stand : Stores id (map added_body bodies) (untagged (first ∷ new.taking.items))
  pub core : core_of new id ≡ record (core_of old id) { doubt = Some first }
  pub limit : new.log.limit ≡ old.log.limit
  pub together : new.together ≡ true

pub back_again : (id : ℕ) (old mid new : Holding) (given left : List Write) (bodies : List (List ℕ)) (number : ℕ) → AreGathered id old given left bodies mid → AreTakenBack mid number new → number ≡ length bodies
    → BackAgain id old new given left bodies
unfolding core_by
back_again id old mid new given left bodies number all back size =
    let behind = back.first ∷ new.taking.items in
    let writes = all.writes in
    let split : old.log.receipts ++ writes ≡ new.log.receipts ++ behind = sym (ap (λ (l : Log). l.receipts) all.log) ∙ back.held in
    let same = same_split old.log.receipts writes new.log.receipts behind split (omega (arith, back.many, size, all.many)) in
    let tags : old.tags.tags ++ replicate (length writes) None ≡ new.tags.tags ++ replicate number None = sym (ap (λ (t : TagList). t.tags) all.tags) ∙ back.untagged in
    let same_tags = same_split old.tags.tags (replicate (length writes) None) new.tags.tags (replicate number None) tags
    (length-replicate (length writes) None ∙ omega (arith, size, all.many) ∙ sym (length-replicate number None)) in
    record {
      first = back.first;
      doubt = back.doubt;
      split = all.split ∙ ap (λ (l : List Write). l ++ left) same.1;
      takable = subst (AreTakable (core_of old id)) same.1 all.takable;
      stand = subst (λ (l : List Write). Stores id (map added_body bodies) (untagged l)) same.1 all.stand;
      core =
          ap (λ (l : Log). core_by l new.tags new.doubt id) back.log
          ∙ ap (λ (l : Log). record (core_by l new.tags new.doubt id) { held = new.log.receipts }) all.log
          ∙ ap (λ (h : List Write). record (core_by old.log new.tags new.doubt id) { held = h }) (sym same.0)
          ∙ ap (λ (t : TagList). core_by old.log t new.doubt id) back.tags
          ∙ ap (λ (t : TagList). record (core_by old.log t new.doubt id) { tags = new.tags.tags }) all.tags
          ∙ ap (λ (t : List (Option Tag)). record (core_by old.log old.tags new.doubt id) { tags = t }) (sym same_tags.0)
          ∙ ap (λ (d : Option Write). core_by old.log old.tags d id) back.doubt;
      limit = ap (λ (l : Log). l.limit) back.log ∙ ap (λ (l : Log). l.limit) all.log;
      together = back.together;
    }

-- ---- what is told of one that was answered alone

pub alone_takes : (core : Core) (given left taking : List Write) (told : TookAll) → IsSoundServer core → IsNoneLeft given left told ⊎ IsToldAlone core given left told
    → TakesAll TakesHeld core given (left_behind told.refused taking left) told core
alone_takes core given left taking told sound (inl nothing) =
    subst (λ (t : TookAll). TakesAll TakesHeld core given (left_behind t.refused taking left) t core) (sym nothing.tells) (record {
      front = [];
      tooks = [];
      mid = core;
      each = refl;
      taken = refl;
      had = refl;
      ends = (nothing.split ∙ sym nothing.none, refl);
    })
alone_takes core given left taking told sound (inr one) =
    subst (λ (t : TookAll). TakesAll TakesHeld core given (left_behind t.refused taking left) t core) (sym one.tells) (by one.answer one.takes)
  where
    write : Write
    write = one.write

    refusal : (fault : TakeFault) → Takes core write (Err fault) core → left_by fault taking left ≡ left
        → TakesAll TakesHeld core given (left_behind (told_one write.wid (Err fault)).refused taking left) (told_one write.wid (Err fault)) core
    refusal fault takes same = record {
      front = [];
      tooks = [];
      mid = core;
      each = refl;
      taken = refl;
      had = refl;
      ends = (
        write,
        one.split ∙ ap (λ (l : List Write). write ∷ l) (sym same),
        record { takes = takes; own = refl; sound = (sound, sound) },
        refl,
      );
    }

    by : (answer : Result Took TakeFault) → Takes core write answer core → TakesAll TakesHeld core given (left_behind (told_one write.wid answer).refused taking left) (told_one write.wid answer) core
    by (Ok New) takes = absurd (omega (arith, ap (λ (c : Core). length c.held) takes.2, length-append core.held (write ∷ [])))
    by (Ok Had) takes = record {
      front = write ∷ [];
      tooks = Had ∷ [];
      mid = core;
      each = (core, record { takes = takes; own = refl; sound = (sound, sound) }, refl);
      taken = refl;
      had = refl;
      ends = (one.split, refl);
    }
    by (Err Conflict) takes = refusal Conflict takes refl
    by (Err Down) takes = refusal Down takes refl
    by (Err OwnLost) takes = refusal OwnLost takes refl
    by (Err Gap) takes = refusal Gap takes refl
    by (Err BadStamp) takes = refusal BadStamp takes refl
    by (Err LogFull) takes = refusal LogFull takes refl
    by (Err OutOfMemory) takes = refusal OutOfMemory takes refl
    by (Err Journal) takes =
        let some : Some write ≡ None = sym (ap (λ (c : Core). c.doubt) takes.2) ∙ takes.0.fit.foreign.up in
        absurd (cc)

pub alone_stores : {D : Type 0} (d : Ghosts D) (server : ServerState D) (given left : List Write) (told : TookAll) → IsNoneLeft given left told ⊎ IsToldAlone server.core given left told
    → StoresAll d server told.refused server
alone_stores d server given left told (inl nothing) =
    subst (λ (t : TookAll). StoresAll d server t.refused server) (sym nothing.tells) (record { pieces = zero; mid = server; stored = refl; ends = refl })
alone_stores d server given left told (inr one) = subst (λ (t : TookAll). StoresAll d server t.refused server) (sym one.tells) (by one.answer one.takes)
  where
    by : (answer : Result Took TakeFault) → Takes server.core one.write answer server.core → StoresAll d server (told_one one.write.wid answer).refused server
    by (Ok New) takes = record { pieces = zero; mid = server; stored = refl; ends = refl }
    by (Ok Had) takes = record { pieces = zero; mid = server; stored = refl; ends = refl }
    by (Err Conflict) takes = record { pieces = zero; mid = server; stored = refl; ends = refl }
    by (Err Down) takes = record { pieces = zero; mid = server; stored = refl; ends = refl }
    by (Err OwnLost) takes = record { pieces = zero; mid = server; stored = refl; ends = refl }
    by (Err Gap) takes = record { pieces = zero; mid = server; stored = refl; ends = refl }
    by (Err BadStamp) takes = record { pieces = zero; mid = server; stored = refl; ends = refl }
    by (Err LogFull) takes = record { pieces = zero; mid = server; stored = refl; ends = refl }
    by (Err OutOfMemory) takes = record { pieces = zero; mid = server; stored = refl; ends = refl }
    by (Err Journal) takes =
        let some : Some one.write ≡ None = sym (ap (λ (c : Core). c.doubt) takes.2) ∙ takes.0.fit.foreign.up in
        absurd (cc)

pub alone_some : (core : Core) (given left : List Write) (told : TookAll) → IsNoneLeft given left told ⊎ IsToldAlone core given left told
    → told.refused ≡ None → (left ≡ []) ⊎ (0 < told.taken + told.had)
alone_some core given left told (inl nothing) none = inl nothing.none
alone_some core given left told (inr one) none = inr (subst (λ (t : TookAll). 0 < t.taken + t.had) (sym one.tells) (by one.answer (sym (ap (λ (t : TookAll). t.refused) one.tells) ∙ none)))
  where
    by : (answer : Result Took TakeFault) → (told_one one.write.wid answer).refused ≡ None → 0 < (told_one one.write.wid answer).taken + (told_one one.write.wid answer).had
    by (Ok New) none = omega arith
    by (Ok Had) none = omega arith
    by (Err fault) none = absurd (cc)

-- ---- where nothing was gathered

pub record Nothing (id : ℕ) (old new : Holding) (given left : List Write) : Type 0 where
  pub core : core_of new id ≡ core_of old id
  pub same : left ≡ given

pub nothing_gathered : (id : ℕ) (old new : Holding) (given left : List Write) (bodies : List (List ℕ)) → AreGathered id old given left bodies new → length bodies ≡ 0 → Nothing id old new given left
nothing_gathered id old new given left bodies all none = by all.writes (omega (arith, all.many, none)) (gathered_core id old new given left bodies all) all.split
  where
    by : (writes : List Write) → length writes ≡ 0 → core_of new id ≡ with_all (core_of old id) writes → given ≡ writes ++ left → Nothing id old new given left
    by [] empty is split = record { core = is; same = sym split }
    by (write ∷ writes) empty is split = absurd (omega (arith, empty))

-- the fields belong together as before
pub gathered_together : {D : Type 0} (journal : JournalState D) (old new : Holding) (id : ℕ) (given left : List Write) (bodies : List (List ℕ)) → BelongTogether journal old id → old.doubt ≡ None
    → AreGathered id old given left bodies new → BelongTogether journal new id
gathered_together journal old new id given left bodies together up all = record {
  owner = together.owner;
  limit = subst (λ n. n ≤ MAX_WRITES) (sym (ap (λ (l : Log). l.limit) all.log)) together.limit;
  sound = subst IsSoundServer (sym (gathered_core id old new given left bodies all)) (taken_each (core_of old id) all.writes together.sound all.takable).1;
  stands = subst (λ (o : Option Write). Stands journal new o) (sym (all.doubt ∙ up)) (stands_up journal old id together up);
  doubts = subst (λ (o : Option Write). AreInDoubt (core_of new id) o new.together new.taking.items) (sym (all.doubt ∙ up))
      (all.taking ∙ (alone_up journal old id together up).0, all.together ∙ (alone_up journal old id together up).1);
}

-- nor does another device part them
pub elsewhere : {D : Type 0} (journal new : JournalState D) (holding : Holding) (id : ℕ) → BelongTogether journal holding id → holding.doubt ≡ None → new.server ≡ journal.server → new.is_down ≡ journal.is_down
    → BelongTogether new holding id
elsewhere journal new holding id together up same_server same_state = record {
  owner = same_server ∙ together.owner;
  limit = together.limit;
  sound = together.sound;
  stands = subst (λ (o : Option Write). Stands new holding o) (sym up) (same_state ∙ stands_up journal holding id together up);
  doubts = together.doubts;
}

-- ---- what an append of several told, and what it left

pub record AppendsAll {D : Type 0} (d : Ghosts D) (journal new : JournalState D) (bodies : List (List ℕ)) (result : Result (Unit {0}) AppendFault) : Type 0 where
  pub down : IsErrOf result append.Down → journal.is_down ≡ true
  pub added : d.is_modelled → OnOk result (d.content new.device ≡ d.content journal.device ++ entries journal.last bodies)
  pub synced : OnOk result (d.kept new.device ≡ d.content new.device)
  pub ends : OnOk result (new ≡ record journal { device = new.device; last = last_link journal.last bodies })
  pub counts : OnOk result (d.failures new.device ≡ d.failures journal.device)
  pub fault : IsErrOf result append.Device → new ≡ record journal { device = new.device; is_down = true }
  pub rose : IsErrOf result append.Device → Rose (d.failures journal.device) (d.failures new.device)
  pub left : d.is_modelled → IsErrOf result append.Device → FailsToAdd d.may_leave (entries journal.last bodies) (d.content journal.device) (d.content new.device)
  pub safe : d.is_modelled → KeepsChains (d.kept journal.device) (d.kept new.device)
  pub calls : d.leads_to 2 journal.device new.device

-- they are stored, and held
pub all_takes : (id : ℕ) (old new : Holding) (given left : List Write) (bodies : List (List ℕ)) (told : TookAll) → IsSoundServer (core_of old id) → AreGathered id old given left bodies new
    → told ≡ record { taken = length bodies; had = 0; refused = None } → TakesAll TakesHeld (core_of old id) given left told (core_of new id)
all_takes id old new given left bodies told sound all is =
    let each = taken_each (core_of old id) all.writes sound all.takable in
    subst (λ (t : TookAll). TakesAll TakesHeld (core_of old id) given left t (core_of new id)) (sym is) (record {
      front = all.writes;
      tooks = all_new all.writes;
      mid = with_all (core_of old id) all.writes;
      each = each.0;
      taken = omega (arith, news_of all.writes, all.many);
      had = sym (hads_of all.writes);
      ends = (all.split, gathered_core id old new given left bodies all);
    })

pub all_stores : {D : Type 0} (d : Ghosts D) (journal after : JournalState D) (old new : Holding) (id : ℕ) (given left : List Write) (bodies : List (List ℕ)) → old.doubt ≡ None
    → AreGathered id old given left bodies new
    → AppendsAll d journal after bodies (Ok tt) → StoresAll d (server_of journal old id) None (server_of after new id)
all_stores {D} d journal after old new id given left bodies up all appends =
    let added : HasAddedAll d (server_of journal old id) (server_of after new id) = record {
      up = up;
      writes = all.writes;
      takable = all.takable;
      core = gathered_core id old new given left bodies all;
      taking = all.taking;
      bodies = bodies;
      stands = all.stand;
      ends = ap (λ (j : JournalState D). j.last) appends.ends;
      behind = appends.added;
      synced = appends.synced;
      counts = appends.counts;
      safe = appends.safe;
      calls = appends.calls;
    } in
    record { pieces = suc zero; mid = server_of after new id; stored = (server_of after new id, added, refl); ends = refl }

-- or they are in doubt
pub record Doubted (id : ℕ) (old new : Holding) (given left : List Write) : Type 0 where
  pub first : Write
  pub takes : TakesHeld (core_of old id) first (Err Journal) (core_of new id)
  pub split : given ≡ first ∷ (new.taking.items ++ left)

pub doubted : (id : ℕ) (old new : Holding) (given left : List Write) (bodies : List (List ℕ)) → IsSoundServer (core_of old id) → old.tags.coming ≡ None → (back : BackAgain id old new given left bodies)
    → TakesHeld (core_of old id) back.first (Err Journal) (core_of new id)
doubted id old new given left bodies sound nothing back =
    let core = core_of old id in
    let is : core_of new id ≡ record core { doubt = Some back.first; doubt_tag = None } = back.core ∙ ap (λ (t : Option Tag). record core { doubt = Some back.first; doubt_tag = t }) nothing in
    let takes : Takes core back.first (Err Journal) (core_of new id) = (back.takable.0, back.takable.1, is) in
    record {
      takes = takes;
      own = own_of_taking core back.first (Err Journal) (core_of new id) takes;
      sound = (
        sound,
        subst IsSoundServer (sym is) (sound_doubting core back.first None sound (takable_in_doubt core back.first back.takable.0 back.takable.1) (untagged_may core back.first)),
      );
    }

pub doubted_takes : (id : ℕ) (old new : Holding) (given left : List Write) (bodies : List (List ℕ)) (wid : Wid) (told : TookAll) → IsSoundServer (core_of old id) → old.tags.coming ≡ None
    → (back : BackAgain id old new given left bodies) → IfSome new.doubt (λ first. wid ≡ first.wid) → told ≡ told_one wid (Err Journal)
    → TakesAll TakesHeld (core_of old id) given (left_behind told.refused new.taking.items left) told (core_of new id)
doubted_takes id old new given left bodies wid told sound nothing back named is =
    subst (λ (t : TookAll). TakesAll TakesHeld (core_of old id) given (left_behind t.refused new.taking.items left) t (core_of new id)) (sym is) (record {
      front = [];
      tooks = [];
      mid = core_of old id;
      each = refl;
      taken = refl;
      had = refl;
      ends = (
        back.first,
        back.split,
        doubted id old new given left bodies sound nothing back,
        subst (λ (o : Option Write). IfSome o (λ first. wid ≡ first.wid)) back.doubt named,
      );
    })

pub doubted_stores : {D : Type 0} (d : Ghosts D) (journal after : JournalState D) (old new : Holding) (id : ℕ) (given left : List Write) (bodies : List (List ℕ)) (wid : Wid) (told : TookAll) (reason : AppendFault)
    → BelongTogether journal old id → old.doubt ≡ None → (back : BackAgain id old new given left bodies) → AppendsAll d journal after bodies (Err reason) → told ≡ told_one wid (Err Journal)
    → StoresAll d (server_of journal old id) told.refused (server_of after new id)
doubted_stores {D} d journal after old new id given left bodies wid told reason together up back appends is =
    let nothing = no_doubt_tag (core_of old id) together.sound up in
    let fault : IsErrOf {T = Unit {0}} (Err reason) append.Device = device_fault (Err reason) refl (λ down. absurd (let was = appends.down down in let is_up = stands_up journal old id together up in cc)) in
    let failed : HasFailedAll d (server_of journal old id) (server_of after new id) = record {
      first = back.first;
      core = back.core ∙ ap (λ (t : Option Tag). record (core_of old id) { doubt = Some back.first; doubt_tag = t }) nothing;
      takable = back.takable;
      bodies = bodies;
      stands = back.stand;
      left = λ modelled. appends.left modelled fault;
      rose = appends.rose fault;
      safe = appends.safe;
      calls = appends.calls;
    } in
    subst (λ (t : TookAll). StoresAll d (server_of journal old id) t.refused (server_of after new id)) (sym is)
    (record { pieces = zero; mid = server_of journal old id; stored = refl; ends = failed })

pub doubted_together : {D : Type 0} (d : Ghosts D) (journal after : JournalState D) (old new : Holding) (id : ℕ) (given left : List Write) (bodies : List (List ℕ)) (reason : AppendFault)
    → BelongTogether journal old id → old.doubt ≡ None → (back : BackAgain id old new given left bodies) → AppendsAll d journal after bodies (Err reason) → BelongTogether after new id
doubted_together {D} d journal after old new id given left bodies reason together up back appends =
    let nothing = no_doubt_tag (core_of old id) together.sound up in
    let fault : IsErrOf {T = Unit {0}} (Err reason) append.Device = device_fault (Err reason) refl (λ down. absurd (let was = appends.down down in let is_up = stands_up journal old id together up in cc)) in
    let first = back.first in
    let forgotten : forgetting (core_of new id) ≡ core_of old id =
    ap (λ (c : Core). record c { doubt = None; doubt_tag = None }) back.core
    ∙ ap (λ (t : Option Tag). record (core_of old id) { doubt = None; doubt_tag = t }) (sym nothing)
    ∙ ap (λ (o : Option Write). record (core_of old id) { doubt = o }) (sym up) in
    record {
      owner = ap (λ (j : JournalState D). j.server) (appends.fault fault) ∙ together.owner;
      limit = subst (λ n. n ≤ MAX_WRITES) (sym back.limit) together.limit;
      sound = (doubted id old new given left bodies together.sound nothing back).sound.1;
      stands = subst (λ (o : Option Write). Stands after new o) (sym back.doubt)
          (λ alone. absurd (let both = back.together in cc));
      doubts = subst (λ (o : Option Write). AreInDoubt (core_of new id) o new.together new.taking.items) (sym back.doubt)
          (subst (λ t. AreInDoubt (core_of new id) (Some first) t new.taking.items) (sym back.together)
          (ap (λ (c : Core). c.doubt_tag) back.core ∙ nothing, subst (λ (c : Core). AreTakable c (first ∷ new.taking.items)) (sym forgotten) back.takable));
    }

-- ---- one piece after another

pieces_more : {D : Type 0} (d : Ghosts D) (one other : ℕ) (old mid new : ServerState D) → StoresPieces d one old mid → StoresPieces d other mid new → (all : ℕ) × StoresPieces d all old new
pieces_more {D} d zero other old mid new same rest = (other, subst (λ (s : ServerState D). StoresPieces d other s new) same rest)
pieces_more d (suc one) other old mid new stored rest =
    let next = pieces_more d one other stored.0 mid new stored.2 rest in
    (suc next.0, (stored.0, stored.1, next.1))

pub stores_more : {D : Type 0} (d : Ghosts D) (old mid new : ServerState D) (first refused : Option RefusedWrite) → StoresAll d old first mid → first ≡ None → StoresAll d mid refused new → StoresAll d old refused new
stores_more {D} d old mid new first refused stored none more =
    let ends : mid ≡ stored.mid = subst (λ (r : Option RefusedWrite). StoringStops d r stored.mid mid) none stored.ends in
    let both = pieces_more d stored.pieces more.pieces old mid more.mid (subst (λ (s : ServerState D). StoresPieces d stored.pieces old s) (sym ends) stored.stored) more.stored in
    record { pieces = both.0; mid = more.mid; stored = both.1; ends = more.ends }
