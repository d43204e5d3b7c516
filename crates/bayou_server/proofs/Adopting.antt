-- What a journal tells against the Writes held and several in doubt.
use Rattle.std.proofs.Common.{◌≡◌, ◌⊎◌, inl, inr, ℕ, zero, suc, ◌+◌, ◌-◌, ◌<◌, ◌≤◌, ◌==◌, List, [], ◌∷◌, ◌++◌, Option, None, Some, Result, Ok, Err, get_or, length, drop, take, replicate, slice_index, refl, sym, ◌∙◌, ap, subst, arith, append_assoc, length-append, length-drop, length-take, take-append-drop}
use Rattle.std.specs.List.{slice_get}
use Rattle.std.specs.Prelude.{Bool, true, false, IfSome, IsSome, MatchResult, OnOk, if◌then◌else◌}
use Rattle.std.proofs.lemmas.Bool.Decides.{Decides-eqb}
use Rattle.std.proofs.lemmas.List.{append-nil, get_or-drop, get_or-take, length-replicate, take-append-le, take_all}
use Rattle.std.proofs.lemmas.Option.{get_or_from_slice_get, slice_get-get_or, slice_get_within}
use Rattle.bayou_base.specs.declared.tag.Tag.{Tag}
use Rattle.bayou_base.specs.declared.wid.Wid.{Wid}
use Rattle.bayou_device.specs.declared.device.Device.{Ghosts}
use Rattle.bayou_journal.specs.Journal.{JournalState}
use Rattle.bayou_journal.specs.Versions.{Body}
use Rattle.bayou_lang.specs.declared.write.Write.{Write}
use Rattle.bayou_log.specs.Log.{Log}
use Rattle.bayou_tags.specs.Tags.{TagList}
use Rattle.bayou_wire.specs.declared.record.Record.{Record}
use Rattle.bayou_server.specs.declared.answer.Reopened.{Reopened}
use Rattle.bayou_server.specs.declared.answer.Took.TheVariants.{New}
use Rattle.bayou_server.specs.declared.fault.ReopenFault.{ReopenFault}
use Rattle.bayou_server.specs.declared.holding.Holding.{Holding}
use Rattle.bayou_server.specs.Inner.Fields.{AreInDoubt, core_of, forgetting, server_of}
use Rattle.bayou_server.specs.Inner.Replaying.{AreHeldAndSome, AreSettled, AreUnsettled, IsLastAdopted, Replays}
use Rattle.bayou_server.specs.Reopens.{AdoptsSeveral, Recovers, RecoversAll, Reopens, ReopensAll, own_adopted}
use Rattle.bayou_server.specs.Server.{AreTags, Core, IsSoundServer, MayBeInDoubt, MayBeItsTag, MayHold, own_count, records, records_of, untagged, with_all, with_taken}
use Rattle.bayou_server.specs.Several.{AreTakable}
use Rattle.bayou_server.specs.Stored.{BeginsWithHeld, HasNoFront, HasOther, IsBodyOf, IsStored, OpensWith, ReopensJournal, Stores, doubts_of, records_with_doubt}
use Rattle.bayou_server.specs.Takes.{Takes}
use Rattle.bayou_server.proofs.Beside.{many_records, one_each, one_of_each, records-push}
use Rattle.bayou_server.proofs.Bodies.{as_many, at_place, both_more, split_at, take_next}
use Rattle.bayou_server.proofs.Comparing.{how_many, more_than_doubt}
use Rattle.bayou_server.proofs.Deciding.{OneRecord, one_list}
use Rattle.bayou_server.specs.Laws.Several.{with_all-is}
use Rattle.bayou_server.proofs.Honesty.{OpensWhole}
use Rattle.bayou_server.proofs.Recovering.{others_refused_amid, stays_other_amid}
use Rattle.bayou_server.proofs.Steps.{own_of_recovery, own_of_taking}
use Rattle.bayou_server.proofs.TakingBack.{same_split}

-- ---- places

-- what stands behind so many, and before so many
pub at_behind : {A : Type 0} (xs : List A) (n many k : ℕ) (x : A) → slice_get xs (n + k) ≡ Some x → k < many → slice_get (take many (drop n xs)) k ≡ Some x
at_behind xs n many k x is within =
    let inside = slice_get_within xs (n + k) x is in
    slice_get-get_or (take many (drop n xs)) k x (omega (arith, inside, within, length-take many (drop n xs), length-drop n xs))
    ∙ ap (λ y. Some y) (get_or-take many (drop n xs) k x within ∙ get_or-drop n xs k x ∙ get_or_from_slice_get xs (n + k) x x is)

pub behind_at : {A : Type 0} (xs : List A) (n k : ℕ) (x : A) → slice_get xs (n + k) ≡ Some x → slice_get (drop n xs) k ≡ Some x
behind_at xs n k x is =
    let inside = slice_get_within xs (n + k) x is in
    slice_get-get_or (drop n xs) k x (omega (arith, inside, length-drop n xs)) ∙ ap (λ y. Some y) (get_or-drop n xs k x ∙ get_or_from_slice_get xs (n + k) x x is)

pub at_front : {A : Type 0} (xs : List A) (many k : ℕ) (x : A) → slice_get xs k ≡ Some x → k < many → slice_get (take many xs) k ≡ Some x
at_front xs many k x is within =
    let inside = slice_get_within xs k x is in
    slice_get-get_or (take many xs) k x (omega (arith, inside, within, length-take many xs))
    ∙ ap (λ y. Some y) (get_or-take many xs k x within ∙ get_or_from_slice_get xs k x x is)

pub untagged_at : (writes : List Write) (k : ℕ) (write : Write) → slice_get writes k ≡ Some write → slice_get (untagged writes) k ≡ Some (record { write = write; tag = None })
untagged_at [] k write is = let none : None ≡ Some write = is in absurd cc
untagged_at (one ∷ writes) zero write is =
    let same : one ≡ write = cc in
    ap (λ (w : Write). Some (record { write = w; tag = None })) same
untagged_at (one ∷ writes) (suc k) write is = untagged_at writes k write is

pub many_untagged : (writes : List Write) → length (untagged writes) ≡ length writes
many_untagged [] = refl
many_untagged (write ∷ writes) = ap suc (many_untagged writes)

pub untagged-push : (writes : List Write) (write : Write) → untagged (writes ++ write ∷ []) ≡ untagged writes ++ record { write = write; tag = None } ∷ []
untagged-push [] write = refl
untagged-push (one ∷ writes) write = ap (λ (l : List Record). record { write = one; tag = None } ∷ l) (untagged-push writes write)

-- the Write in doubt, where one is
pub some_doubt : (doubt : Option Write) → IsSome doubt → (write : Write) × (doubt ≡ Some write)
some_doubt None some = absurd cc
some_doubt (Some write) some = (write, refl)

-- some of them stand there
pub are_some : (core : Core) (doubt : Write) (taking : List Write) (bodies : List Body) (number : ℕ) → AreHeldAndSome core doubt taking bodies number → (number ≡ 0 → ⊥)
    → (number - 1 ≤ length taking) × Stores core.id bodies (records_of core ++ doubts_of core doubt (take (number - 1) taking))
are_some core doubt taking bodies number (inl none) some = absurd (some none.0)
are_some core doubt taking bodies number (inr (more, is, few, stores)) some =
    let same : more ≡ number - 1 = omega (arith, is) in
    (omega (arith, few, same), subst (λ n. Stores core.id bodies (records_of core ++ doubts_of core doubt (take n taking))) same stores)

-- ---- lists that stand for more

pub stores_both : (id : ℕ) (front more : List Body) (held others : List Record) → Stores id front held → Stores id more others → Stores id (front ++ more) (held ++ others)
stores_both id [] more [] others first behind = behind
stores_both id [] more (one ∷ held) others first behind = absurd first
stores_both id (body ∷ front) more [] others first behind = absurd first
stores_both id (body ∷ front) more (one ∷ held) others first behind = (first.0, stores_both id front more held others first.1 behind)

pub stores_behind : (id : ℕ) (front more : List Body) (held others : List Record) → length front ≡ length held → Stores id (front ++ more) (held ++ others) → Stores id more others
stores_behind id [] more [] others same stores = stores
stores_behind id [] more (one ∷ held) others same stores = absurd (omega (arith, same))
stores_behind id (body ∷ front) more [] others same stores = absurd (omega (arith, same))
stores_behind id (body ∷ front) more (one ∷ held) others same stores = stores_behind id front more held others (omega (arith, same)) stores.1

-- the bodies of what is held, one behind them, and the rest
pub record Seam (core : Core) (bodies : List Body) (body : Body) : Type 0 where
  pub front : List Body
  pub stores : Stores core.id front (records_of core)
  pub split : bodies ≡ front ++ body ∷ drop (length core.held + 1) bodies
  pub size : length front ≡ length core.held

pub seam : (core : Core) (bodies : List Body) (body : Body) → length core.tags ≡ length core.held → BeginsWithHeld core.id (records_of core) bodies → slice_get bodies (length core.held) ≡ Some body → Seam core bodies body
seam core bodies body same begins is =
    let place = length core.held in
    let size : length begins.front ≡ place = as_many (IsBodyOf core.id) begins.front (records_of core) begins.stores ∙ many_records core.held core.tags same in
    let here = split_at bodies place body is in
    let within = slice_get_within bodies place body is in
    let parts = same_split begins.front begins.more (take place bodies) (body ∷ drop (place + 1) bodies) (sym begins.split ∙ here)
    (omega (arith, how_many core.id (records_of core) bodies begins, many_records core.held core.tags same, within, length-drop (place + 1) bodies)) in
    record { front = begins.front; stores = begins.stores; split = begins.split ∙ ap (λ (l : List Body). begins.front ++ l) parts.1; size = size }

-- what stands for what is held and for some in doubt
module _ (core : Core) (doubt : Write) (bodies : List Body) (same : length core.tags ≡ length core.held) where
  abbrev first : Record
  first = record { write = doubt; tag = core.doubt_tag }

  -- how many they are
  pub many_with : (front : List Write) → Stores core.id bodies (records_of core ++ doubts_of core doubt front) → length bodies ≡ length core.held + 1 + length front
  many_with front stores =
      omega (
        arith,
        as_many (IsBodyOf core.id) bodies (records_of core ++ doubts_of core doubt front) stores,
        length-append (records_of core) (doubts_of core doubt front),
        many_records core.held core.tags same,
        many_untagged front,
      )

  -- more than all in doubt stand there
  pub more_than_all : (taking : List Write) → BeginsWithHeld core.id (records_of core) bodies → length core.held + 1 + length taking < length bodies → HasOther core doubt bodies × HasNoFront core doubt taking bodies
  more_than_all taking begins longer = (
    more_than_doubt core doubt bodies same begins (omega (arith, longer)),
    λ front behind split stores. omega (arith, many_with front stores, longer, ap length split, length-append front behind),
  )

  -- behind what is held another stands than the first in doubt
  pub other_first : (taking : List Write) (body : Body) → BeginsWithHeld core.id (records_of core) bodies → slice_get bodies (length core.held) ≡ Some body → ¬ IsBodyOf core.id body first
      → HasOther core doubt bodies × HasNoFront core doubt taking bodies
  other_first taking body begins is other = (
    record {
      begins = begins;
      not_held = λ stores.
          omega (arith, slice_get_within bodies (length core.held) body is, as_many (IsBodyOf core.id) bodies (records_of core) stores, many_records core.held core.tags same);
      not_adopted = λ stores. none [] (subst (Stores core.id bodies) (records-push core.held core.tags doubt core.doubt_tag same) stores);
    },
    λ front behind split stores. none front stores,
  )
    where
      none : (front : List Write) → Stores core.id bodies (records_of core ++ doubts_of core doubt front) → ⊥
      none front stores =
          let here = seam core bodies body same begins is in
          let tail = subst (λ (b : List Body). Stores core.id b (records_of core ++ doubts_of core doubt front)) here.split stores in
          let behind = stores_behind core.id here.front (body ∷ drop (length core.held + 1) bodies) (records_of core) (doubts_of core doubt front)
          (here.size ∙ sym (many_records core.held core.tags same)) tail in
          other behind.0

  -- behind the first in doubt others stand than a front of the rest
  pub other_rest : (taking : List Write) (body : Body) (more : ℕ) → BeginsWithHeld core.id (records_of core) bodies → slice_get bodies (length core.held) ≡ Some body → length bodies ≡ length core.held + 1 + more
      → more ≤ length taking → ¬ Stores core.id (take more (drop (length core.held + 1) bodies)) (untagged (take more taking)) → HasOther core doubt bodies × HasNoFront core doubt taking bodies
  other_rest taking body more begins is size few other = (by more refl, none)
    where
      none : HasNoFront core doubt taking bodies
      none front behind split stores =
          let here = seam core bodies body same begins is in
          let rest = drop (length core.held + 1) bodies in
          let tail = stores_behind core.id here.front (body ∷ rest) (records_of core) (doubts_of core doubt front) (here.size ∙ sym (many_records core.held core.tags same))
          (subst (λ (b : List Body). Stores core.id b (records_of core ++ doubts_of core doubt front)) here.split stores) in
          let many : length front ≡ more = omega (arith, many_with front stores, size) in
          let all : take more rest ≡ rest = take_all more rest (omega (arith, size, length-drop (length core.held + 1) bodies)) in
          let same_front : take more taking ≡ front =
          ap (take more) split ∙ take-append-le more front behind (omega (arith, many)) ∙ take_all more front (omega (arith, many)) in
          other (subst (λ (b : List Body). Stores core.id b (untagged (take more taking))) (sym all) (subst (λ (l : List Write). Stores core.id rest (untagged l)) (sym same_front) tail.1))

      by : (n : ℕ) → n ≡ more → HasOther core doubt bodies
      by zero none_more = absurd (other (subst (λ n. Stores core.id (take n (drop (length core.held + 1) bodies)) (untagged (take n taking))) none_more tt))
      by (suc n) some = more_than_doubt core doubt bodies same begins (omega (arith, some, size))

  -- so many of them stand there
  pub some_stand : (taking : List Write) (body : Body) (more : ℕ) → BeginsWithHeld core.id (records_of core) bodies → slice_get bodies (length core.held) ≡ Some body → length bodies ≡ length core.held + 1 + more
      → IsBodyOf core.id body first → Stores core.id (take more (drop (length core.held + 1) bodies)) (untagged (take more taking))
      → Stores core.id bodies (records_of core ++ doubts_of core doubt (take more taking))
  some_stand taking body more begins is size stands rest =
      let here = seam core bodies body same begins is in
      let behind = drop (length core.held + 1) bodies in
      let all : take more behind ≡ behind = take_all more behind (omega (arith, size, length-drop (length core.held + 1) bodies)) in
      subst (λ (b : List Body). Stores core.id b (records_of core ++ doubts_of core doubt (take more taking))) (sym here.split)
      (stores_both core.id here.front (body ∷ behind) (records_of core) (doubts_of core doubt (take more taking)) here.stores
      (stands, subst (λ (b : List Body). Stores core.id b (untagged (take more taking))) all rest))

-- ---- what is held then

pub records_all : (core : Core) (writes : List Write) → length core.tags ≡ length core.held → records_of (with_all core writes) ≡ records_of core ++ untagged writes
records_all core [] same = sym (append-nil (records_of core))
records_all core (write ∷ writes) same =
    records_all (with_taken core write) writes (omega (arith, same, length-append core.held (write ∷ []), length-append core.tags (None ∷ [])))
    ∙ ap (λ (l : List Record). l ++ untagged writes) (records-push core.held core.tags write None same)
    ∙ append_assoc (records_of core) (record { write = write; tag = None } ∷ []) (untagged writes)

-- the core, once the first in doubt is adopted
abbrev pub with_doubt : Core → Write → Core
with_doubt core doubt = record core { held = core.held ++ doubt ∷ []; tags = core.tags ++ core.doubt_tag ∷ []; doubt = None; doubt_tag = None }

pub records_amid : (core : Core) (doubt : Write) (front : List Write) → length core.tags ≡ length core.held → records_of (with_all (with_doubt core doubt) front) ≡ records_of core ++ doubts_of core doubt front
records_amid core doubt front same =
    records_all (with_doubt core doubt) front (omega (arith, same, length-append core.held (doubt ∷ []), length-append core.tags (core.doubt_tag ∷ [])))
    ∙ ap (λ (l : List Record). l ++ untagged front) (records-push core.held core.tags doubt core.doubt_tag same)
    ∙ append_assoc (records_of core) (record { write = doubt; tag = core.doubt_tag } ∷ []) (untagged front)

core_by : Log → TagList → Option Write → ℕ → Core
core_by log tags doubt id = record { id = id; count = log.count; limit = log.limit; held = log.receipts; tags = tags.tags; doubt = doubt; doubt_tag = tags.coming }

-- what is made anew of the journal holds just that
pub made_anew : OneRecord → (id count limit : ℕ) (old again : Holding) (doubt : Write) (front : List Write) (bodies : List Body) → id < count → count ≡ old.log.count → limit ≡ old.log.limit
    → length old.tags.tags ≡ length old.log.receipts → Stores id bodies (records_of (core_of old id) ++ doubts_of (core_of old id) doubt front) → Replays id count limit bodies again
    → (core_of again id ≡ with_all (with_doubt (core_of old id) doubt) front) × IsSoundServer (core_of again id)
unfolding core_by
made_anew law id count limit old again doubt front bodies known same_count same_limit same stores replays =
    let core = core_of old id in
    let next = with_doubt core doubt in
    let whole = with_all next front in
    let held = next.held ++ front in
    let tags = next.tags ++ replicate (length front) None in
    let is : whole ≡ record next { held = held; tags = tags } = with_all-is next front in
    let one : records again.log.receipts again.tags.tags ≡ records held tags =
    one_list law id bodies (records again.log.receipts again.tags.tags) (records_of core ++ doubts_of core doubt front) replays.whole stores
    ∙ sym (records_amid core doubt front same) ∙ ap records_of is in
    let each = one_of_each again.log.receipts held again.tags.tags tags (one_each id again.log.receipts again.tags.tags replays.tagged)
    (omega (
      arith,
      same,
      length-append next.held front,
      length-append next.tags (replicate (length front) None),
      length-replicate {A = Option Tag} (length front) None,
      length-append core.held (doubt ∷ []),
      length-append core.tags (core.doubt_tag ∷ []),
    )) one in
    let same_core : core_of again id ≡ record next { held = held; tags = tags } =
    ap (λ (w : List Write). record (core_by again.log again.tags again.doubt id) { held = w }) each.0
    ∙ ap (λ (t : List (Option Tag)). record (core_by again.log again.tags again.doubt id) { held = held; tags = t }) each.1
    ∙ ap (λ (d : Option Write). record (core_by again.log again.tags d id) { held = held; tags = tags }) replays.no_doubt
    ∙ ap (λ (t : Option Tag). record { id = id; count = again.log.count; limit = again.log.limit; held = held; tags = tags; doubt = None; doubt_tag = t }) replays.nothing_comes
    ∙ ap (λ n. record { id = id; count = n; limit = again.log.limit; held = held; tags = tags; doubt = None; doubt_tag = None }) (replays.same_count ∙ same_count)
    ∙ ap (λ n. record { id = id; count = old.log.count; limit = n; held = held; tags = tags; doubt = None; doubt_tag = None }) (replays.same_limit ∙ same_limit) in (
      same_core ∙ sym is,
      record {
        known = subst (λ n. id < n) (sym replays.same_count) known;
        holds = subst (λ n. MayHold id n again.log.limit again.log.receipts) (sym replays.same_count)
            (subst (λ n. MayHold id count n again.log.receipts) (sym replays.same_limit) replays.holds);
        spelled = replays.spelled;
        tagged = replays.tagged;
        doubted = subst (λ (o : Option Write). IfSome o (MayBeInDoubt id again.log.count again.log.limit again.log.receipts)) (sym replays.no_doubt) tt;
        doubt_tagged = subst (λ (o : Option Write). MayBeItsTag id again.tags.tags o again.tags.coming) (sym replays.no_doubt) replays.nothing_comes;
      },
    )

-- so the server is up again
pub recovers_all : (old new : Core) (doubt : Write) (taking : List Write) (more : ℕ) (wid : Wid) → old.doubt ≡ Some doubt → more ≤ length taking → IsLastAdopted doubt taking more wid
    → new ≡ with_all (with_doubt old doubt) (take more taking) → RecoversAll old taking (Some wid) new
recovers_all old new doubt taking more wid is few (inl (none, named)) holds =
    inl (doubt, is, named, holds ∙ ap (λ n. with_all (with_doubt old doubt) (take n taking)) none)
recovers_all old new doubt taking more wid is few (inr (at, last, some, there, named)) holds =
    let split = split_at taking at last there in
    let within = slice_get_within taking at last there in
    let front : take more taking ≡ take at taking ++ last ∷ [] =
    ap (λ n. take n taking) some ∙ take_next taking at last there in
    inr (record {
      doubt = doubt;
      is = is;
      front = take at taking;
      last = last;
      behind = drop (at + 1) taking;
      split = split;
      tells = ap (λ (w : Wid). Some w) named;
      holds = holds ∙ ap (λ (l : List Write). with_all (with_doubt old doubt) l) front;
    })

-- ---- own Writes

AreTakable-front : (core : Core) (front behind : List Write) → AreTakable core (front ++ behind) → AreTakable core front
AreTakable-front core [] behind are = tt
AreTakable-front core (write ∷ front) behind are = (are.0, are.1, AreTakable-front (with_taken core write) front behind are.2)

-- the Writes that may be taken are none of its own
own_of_all : (core : Core) (writes : List Write) → AreTakable core writes → own_count (with_all core writes) ≡ own_count core
own_of_all core [] are = refl
own_of_all core (write ∷ writes) are =
    let takes : Takes core write (Ok New) (with_taken core write) = (are.0, are.1, refl) in
    own_of_all (with_taken core write) writes are.2 ∙ own_of_taking core write (Ok New) (with_taken core write) takes

last_is_foreign : (core : Core) (front : List Write) (last : Write) → AreTakable core (front ++ last ∷ []) → (last.wid.origin.index == core.id) ≡ false
last_is_foreign core [] last are = by (last.wid.origin.index == core.id) refl
  where
    by : (own : Bool) → (last.wid.origin.index == core.id) ≡ own → (last.wid.origin.index == core.id) ≡ false
    by true is = absurd (are.0.fit.foreign.foreign ((Decides-eqb last.wid.origin.index core.id).0 is))
    by false is = is
last_is_foreign core (write ∷ front) last are = last_is_foreign (with_taken core write) front last are.2

pub own_of_all_recovery : (old : Core) (taking : List Write) (adopted : Option Wid) (new : Core) → ((doubt : Write) → old.doubt ≡ Some doubt → (old.doubt_tag ≡ None) × AreTakable (forgetting old) (doubt ∷ taking))
    → RecoversAll old taking adopted new → own_count new ≡ own_count old + own_adopted old.id adopted
own_of_all_recovery old taking adopted new doubts (inl one) = own_of_recovery old adopted new one
own_of_all_recovery old taking adopted new doubts (inr several) =
    let (untagged_doubt, are) = doubts several.doubt several.is in
    let all = several.front ++ several.last ∷ [] in
    let front : several.doubt ∷ taking ≡ (several.doubt ∷ all) ++ several.behind =
    ap (λ (l : List Write). several.doubt ∷ l) (several.split ∙ sym (append_assoc several.front (several.last ∷ []) several.behind)) in
    let takable = AreTakable-front (forgetting old) (several.doubt ∷ all) several.behind (subst (AreTakable (forgetting old)) front are) in
    let next : with_doubt old several.doubt ≡ with_taken (forgetting old) several.doubt =
    ap (λ (t : Option Tag). record old { held = old.held ++ several.doubt ∷ []; tags = old.tags ++ t ∷ []; doubt = None; doubt_tag = None }) untagged_doubt in
    let none : own_adopted old.id (Some several.last.wid) ≡ 0 =
    ap (λ (b : Bool). if b then 1 else 0) (last_is_foreign (forgetting old) (several.doubt ∷ several.front) several.last takable) in
    ap own_count (several.holds ∙ ap (λ (c : Core). with_all c all) next)
    ∙ own_of_all (forgetting old) (several.doubt ∷ all) takable
    ∙ omega (arith, none, ap (own_adopted old.id) several.tells)

-- ---- a reopening where several were stored together

pub own_of_one : (old : Core) (taking : List Write) (adopted : Option Wid) (new : Core) → taking ≡ [] → RecoversAll old taking adopted new → own_count new ≡ own_count old + own_adopted old.id adopted
own_of_one old taking adopted new none (inl one) = own_of_recovery old adopted new one
own_of_one old taking adopted new none (inr several) =
    absurd (omega (arith, ap length none, ap length several.split, length-append several.front (several.last ∷ several.behind)))

abbrev pub Settled : (id : ℕ) (old : Holding) (bodies : List Body) (result : Result Reopened ReopenFault) (new : Holding) → Type 0
Settled id old bodies result new = MatchResult result (λ reopened. AreSettled id old bodies reopened.adopted new) (λ fault. AreUnsettled id old bodies fault new)

pub several_reopens : (id : ℕ) (old new : Holding) (bodies : List Body) (result : Result Reopened ReopenFault) → (doubt : Write) × (old.doubt ≡ Some doubt) → Settled id old bodies result new
    → ReopensAll (core_of old id) old.taking.items result (core_of new id)
several_reopens id old new bodies (Ok reopened) down settled = settled.recovers
several_reopens id old new bodies (Err fault) (doubt, is) settled =
    subst (λ (h : Holding). Reopens (core_of old id) (Err fault) (core_of h id)) (sym settled.0)
    (stays_other_amid (core_of old id) doubt old.taking.items bodies fault is (settled.1 doubt is))

doubts_of_together : (core : Core) (doubt : Option Write) (together : Bool) (taking : List Write) → core.doubt ≡ doubt → AreInDoubt core doubt together taking → together ≡ true
    → (first : Write) → core.doubt ≡ Some first → (core.doubt_tag ≡ None) × AreTakable (forgetting core) (first ∷ taking)
doubts_of_together core None together taking same are joined one_first is = absurd (let none : None ≡ Some one_first = sym same ∙ is in cc)
doubts_of_together core (Some write) false taking same are joined one_first is = absurd cc
doubts_of_together core (Some write) true taking same are joined one_first is =
    let both : Some write ≡ Some one_first = sym same ∙ is in
    let one : write ≡ one_first = cc in
    subst (λ (w : Write). (core.doubt_tag ≡ None) × AreTakable (forgetting core) (w ∷ taking)) one are

pub several_own : (id : ℕ) (old new : Holding) (bodies : List Body) (result : Result Reopened ReopenFault) → AreInDoubt (core_of old id) old.doubt old.together old.taking.items → old.together ≡ true
    → Settled id old bodies result new
    → MatchResult result (λ reopened. own_count (core_of new id) ≡ own_count (core_of old id) + own_adopted id reopened.adopted) (λ fault. own_count (core_of new id) ≡ own_count (core_of old id))
several_own id old new bodies (Ok reopened) doubts joined settled =
    own_of_all_recovery (core_of old id) old.taking.items reopened.adopted (core_of new id)
    (doubts_of_together (core_of old id) old.doubt old.together old.taking.items refl doubts joined) settled.recovers
several_own id old new bodies (Err fault) doubts joined settled = ap (λ (h : Holding). own_count (core_of h id)) settled.0

pub several_opens : {D : Type 0} (d : Ghosts D) (journal after : JournalState D) (old new : Holding) (id : ℕ) (bodies : List Body) (result : Result Reopened ReopenFault) → (doubt : Write) × (old.doubt ≡ Some doubt)
    → OpensWith d id journal.device after.device bodies after.last → Settled id old bodies result new → ReopensJournal d (server_of journal old id) result (server_of after new id)
several_opens d journal after old new id bodies (Ok reopened) down opened settled = (bodies, settled.whole, opened)
several_opens d journal after old new id bodies (Err fault) (doubt, is) opened settled =
    others_refused_amid d (server_of journal old id) (server_of after new id) doubt bodies fault is opened (settled.1 doubt is)

pub several_stored : {D : Type 0} (d : Ghosts D) → OpensWhole d → (journal after : JournalState D) (old new : Holding) (id : ℕ) (bodies : List Body) (result : Result Reopened ReopenFault) → d.is_modelled
    → OpensWith d id journal.device after.device bodies after.last → Settled id old bodies result new → OnOk result (IsStored d (server_of after new id))
several_stored d law journal after old new id bodies (Ok reopened) modelled opened settled =
    let whole = law id journal.device after.device (record { bodies = bodies; dropped = opened.dropped }) after.last modelled opened.opened in
    (bodies, settled.whole, whole.has)
several_stored d law journal after old new id bodies (Err fault) modelled opened settled = tt
