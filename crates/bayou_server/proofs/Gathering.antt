-- Writes of other servers that are gathered, so that they are stored together.
use Rattle.std.proofs.Common.{◌≡◌, ◌≢◌, ℕ, zero, suc, ◌+◌, ◌-◌, ◌<◌, ◌≤◌, ◌==◌, Bool, true, List, [], ◌∷◌, ◌++◌, Option, None, Some, Ok, get_or, length, map, drop, replicate, refl, sym, ◌∙◌, ap, subst, arith, append_assoc, length-append}
use Rattle.std.specs.Global.{Vec}
use Rattle.std.proofs.lemmas.Bool.Decides.{Decides-eqb}
use Rattle.std.proofs.lemmas.List.{append-nil, length-map, length-replicate, map_push, replicate-append-replicate}
use Rattle.bayou_base.specs.declared.tag.Tag.{Tag}
use Rattle.bayou_journal.specs.Chain.{AreBodies, IsBody, entries_bytes}
use Rattle.bayou_journal.specs.Honest.{added_body}
use Rattle.bayou_journal.specs.Laws.Chain.{AreBodies-push}
use Rattle.bayou_journal.specs.Versions.{Body}
use Rattle.bayou_journal.specs.declared.format.TheConstants.{DIGEST_BYTES, LENGTH_BYTES}
use Rattle.bayou_lang.specs.declared.write.Write.{Write}
use Rattle.bayou_lang.specs.Ranges.{IsWrite}
use Rattle.bayou_log.specs.Log.{Log}
use Rattle.bayou_tags.specs.Tags.{TagList}
use Rattle.bayou_wire.specs.declared.record.Record.{Record}
use Rattle.bayou_server.specs.declared.answer.Took.{Took}
use Rattle.bayou_server.specs.declared.answer.Took.TheVariants.{New}
use Rattle.bayou_server.specs.declared.holding.Holding.{Holding}
use Rattle.bayou_server.specs.Inner.Fields.{core_of}
use Rattle.bayou_server.specs.Inner.Gathering.{AreGathered, IsGathered, IsReady, IsRoomier, bytes_of}
use Rattle.bayou_server.specs.Server.{Core, IsSoundServer, MayBeInDoubt, MayBeItsTag, untagged, with_all, with_taken}
use Rattle.bayou_server.specs.Laws.Several.{with_all-is}
use Rattle.bayou_server.specs.Several.{AreTakable, TakesHeld}
use Rattle.bayou_server.specs.Stored.{IsBodyOf, Stores}
use Rattle.bayou_server.specs.Takes.{IsTakable, Takes}
use Rattle.bayou_server.specs.TakesAll.{TakesEach, hads, news}
use Rattle.bayou_server.proofs.Beside.{no_tag}
use Rattle.bayou_server.proofs.Bodies.{both_more}
use Rattle.bayou_server.proofs.Steps.{own_of_taking, sound_next}

-- the first of a list
pub first_of : (items : List Write) (write : Write) → 0 < length items → write ≡ get_or items 0 write → items ≡ write ∷ drop 1 items
first_of [] write some is = absurd (omega (arith, some))
first_of (first ∷ items) write some is = ap (λ (w : Write). w ∷ items) (sym is)

pub same_first : (items left rest : List Write) (one other : Write) → items ≡ one ∷ rest → items ≡ other ∷ left → one ≡ other
same_first items left rest one other is was = ap (λ (l : List Write). get_or l 0 one) (sym is ∙ was)

-- ---- servers that hold more

core_by : Log → TagList → Option Write → ℕ → Core
core_by log tags doubt id = record { id = id; count = log.count; limit = log.limit; held = log.receipts; tags = tags.tags; doubt = doubt; doubt_tag = tags.coming }

pub with_all-push : (core : Core) (writes : List Write) (write : Write) → with_all core (writes ++ write ∷ []) ≡ with_taken (with_all core writes) write
with_all-push core [] write = refl
with_all-push core (one ∷ writes) write = with_all-push (with_taken core one) writes write

pub AreTakable-push : (core : Core) (writes : List Write) (write : Write) → AreTakable core writes → IsTakable (with_all core writes) write → IsWrite write → AreTakable core (writes ++ write ∷ [])
AreTakable-push core [] write are takable is = (takable, is, tt)
AreTakable-push core (one ∷ writes) write are takable is = (are.0, are.1, AreTakable-push (with_taken core one) writes write are.2 takable is)

untagged-push : (writes : List Write) (write : Write) → untagged (writes ++ write ∷ []) ≡ untagged writes ++ record { write = write; tag = None } ∷ []
untagged-push [] write = refl
untagged-push (one ∷ writes) write = ap (λ (l : List Record). record { write = one; tag = None } ∷ l) (untagged-push writes write)

-- a Write that may be taken may be in doubt
pub takable_in_doubt : (core : Core) (write : Write) → IsTakable core write → IsWrite write → MayBeInDoubt core.id core.count core.limit core.held write
takable_in_doubt core write takable is = record {
  spelled = is;
  room = takable.room;
  fits = takable.fit.fits;
  own = λ own. absurd (takable.fit.foreign.foreign own);
}

pub untagged_may : (core : Core) (write : Write) → MayBeItsTag core.id core.tags (Some write) None
untagged_may core write = (tt, λ some. absurd (no_tag some))

pub sound_taken : (core : Core) (write : Write) → IsSoundServer core → IsTakable core write → IsWrite write → IsSoundServer (with_taken core write)
sound_taken core write sound takable is = sound_next core write None sound takable.fit.foreign.up (takable_in_doubt core write takable is) (untagged_may core write)

-- each of them was taken
pub all_new : List Write → List Took
all_new [] = []
all_new (write ∷ writes) = New ∷ all_new writes

pub taken_each : (core : Core) (writes : List Write) → IsSoundServer core → AreTakable core writes → TakesEach TakesHeld core writes (all_new writes) (with_all core writes) × IsSoundServer (with_all core writes)
unfolding all_new
taken_each core [] sound are = (refl, sound)
taken_each core (write ∷ writes) sound are =
    let next = sound_taken core write sound are.0 are.1 in
    let takes : Takes core write (Ok New) (with_taken core write) = (are.0, are.1, refl) in
    let rest = taken_each (with_taken core write) writes next are.2 in
    ((with_taken core write, record { takes = takes; own = own_of_taking core write (Ok New) (with_taken core write) takes; sound = (sound, next) }, rest.0), rest.1)

pub news_of : (writes : List Write) → news (all_new writes) ≡ length writes
unfolding all_new
news_of [] = refl
news_of (write ∷ writes) = ap suc (news_of writes)

pub hads_of : (writes : List Write) → hads (all_new writes) ≡ 0
unfolding all_new
hads_of [] = refl
hads_of (write ∷ writes) = hads_of writes

-- ---- their entries

pub bytes-push : (bodies : List (List ℕ)) (body : List ℕ) → entries_bytes (bodies ++ body ∷ []) ≡ entries_bytes bodies + (LENGTH_BYTES + length body + DIGEST_BYTES)
bytes-push [] body = omega arith
bytes-push (first ∷ bodies) body = let more = bytes-push bodies body in omega (arith, more)

pub many_bytes : (bodies : List (List ℕ)) → length bodies ≤ entries_bytes bodies
many_bytes [] = omega arith
many_bytes (body ∷ bodies) = let more = many_bytes bodies in omega (arith, more)

pub many_bytes_of : (bodies : List (Vec ℕ)) → length bodies ≡ length (bytes_of bodies)
many_bytes_of bodies = sym (length-map bodies (λ (body : Vec ℕ). body.items))

-- there is none
pub no_bodies : (bodies : List (Vec ℕ)) (size : ℕ) (empty : Bool) → size ≡ length bodies → empty ≡ (size == 0) → empty ≡ true → length (bytes_of bodies) ≡ 0
no_bodies bodies size empty sized is none = omega (arith, sized, (Decides-eqb size 0).0 (sym is ∙ none), many_bytes_of bodies)

-- ---- one more

pub gathered_one : (id : ℕ) (old mid : Holding) (given left : List Write) (many room : ℕ) (body : List ℕ) (write : Write) (log : Log) (tags : TagList) (before after : List (List ℕ)) (size : ℕ)
    → IsRoomier old mid → IsReady id old given many room body mid → given ≡ write ∷ left → old.tags.coming ≡ None
    → log ≡ record mid.log { receipts = mid.log.receipts ++ write ∷ []; room = log.room; waiting = mid.log.waiting + 1 }
    → tags ≡ record mid.tags { tags = mid.tags.tags ++ mid.tags.coming ∷ []; coming = None; room = tags.room }
    → after ≡ before ++ body ∷ [] → size ≡ LENGTH_BYTES + length body + DIGEST_BYTES → many ≡ length before + 1
    → (IsTakable (core_of old id) write → IsBodyOf id (added_body body) (record { write = write; tag = None })) → IsWrite write
    → IsGathered id old given left before after size (record { log = log; tags = tags; doubt = mid.doubt; taking = mid.taking; together = mid.together }) × (size ≤ room)
gathered_one id old mid given left many room body write log tags before after size roomier ready is nothing placed settled added sized number stands spelled =
    let one : ready.write ≡ write = same_first given left ready.rest ready.write write ready.split is in
    let takable : IsTakable (core_of old id) write = subst (IsTakable (core_of old id)) one ready.takable in (
      record {
        write = write;
        split = is;
        takable = takable;
        spelled = spelled;
        body = body;
        stands = stands takable;
        is = ready.is;
        bodies = added;
        sized = sized;
        log = placed ∙ ap (λ (l : Log). record l { receipts = l.receipts ++ write ∷ []; room = log.room; waiting = l.waiting + 1 }) roomier.log;
        tags = settled ∙ ap (λ (t : TagList). record t { tags = t.tags ++ t.coming ∷ []; coming = None; room = tags.room }) roomier.tags
            ∙ ap (λ (t : Option Tag). record old.tags { tags = old.tags.tags ++ t ∷ []; coming = None; room = tags.room }) nothing
            ∙ ap (λ (t : Option Tag). record old.tags { tags = old.tags.tags ++ None ∷ []; coming = t; room = tags.room }) (sym nothing);
        doubt = roomier.doubt;
        taking = roomier.taking;
        together = roomier.together;
        place = omega (arith, ready.places, number, ap length added, length-append before (body ∷ []));
      },
      omega (arith, sized, ready.size),
    )

-- ---- several

pub none_gathered : (id : ℕ) (holding : Holding) (given : List Write) → AreGathered id holding given given [] holding
none_gathered id holding given = record {
  writes = [];
  split = refl;
  takable = tt;
  stand = tt;
  are = tt;
  many = refl;
  log = sym (ap (λ (l : List Write). record holding.log { receipts = l }) (append-nil holding.log.receipts))
      ∙ ap (λ n. record holding.log { receipts = holding.log.receipts ++ []; waiting = n }) (omega arith);
  tags = sym (ap (λ (l : List (Option Tag)). record holding.tags { tags = l }) (append-nil holding.tags.tags));
  doubt = refl;
  taking = refl;
  together = refl;
  places = omega arith;
}

-- what is held then
pub gathered_core : (id : ℕ) (old new : Holding) (given left : List Write) (bodies : List (List ℕ)) (all : AreGathered id old given left bodies new) → core_of new id ≡ with_all (core_of old id) all.writes
unfolding core_by
gathered_core id old new given left bodies all =
    ap (λ (l : Log). core_by l new.tags new.doubt id) all.log
    ∙ ap (λ (t : TagList). record (core_by old.log t new.doubt id) { held = old.log.receipts ++ all.writes }) all.tags
    ∙ ap (λ (d : Option Write). record (core_by old.log old.tags d id) { held = old.log.receipts ++ all.writes; tags = old.tags.tags ++ replicate (length all.writes) None }) all.doubt
    ∙ sym (with_all-is (core_of old id) all.writes)

pub one_more_gathered : (id : ℕ) (old mid new : Holding) (given between left : List Write) (bodies more : List (List ℕ)) (size : ℕ)
    → AreGathered id old given between bodies mid → IsGathered id mid between left bodies more size new → AreGathered id old given left more new
one_more_gathered id old mid new given between left bodies more size all one =
    let writes = all.writes ++ one.write ∷ [] in
    let longer : length writes ≡ length all.writes + 1 = length-append all.writes (one.write ∷ []) in
    record {
      writes = writes;
      split = all.split ∙ ap (λ (l : List Write). all.writes ++ l) one.split ∙ sym (append_assoc all.writes (one.write ∷ []) left);
      takable = AreTakable-push (core_of old id) all.writes one.write all.takable (subst (λ (c : Core). IsTakable c one.write) (gathered_core id old mid given between bodies all) one.takable) one.spelled;
      stand = subst (λ (b : List Body). Stores id b (untagged writes)) (sym (ap (map added_body) one.bodies ∙ map_push added_body bodies one.body))
          (subst (λ (r : List Record). Stores id (map added_body bodies ++ added_body one.body ∷ []) r) (sym (untagged-push all.writes one.write))
          (both_more (IsBodyOf id) (map added_body bodies) (untagged all.writes) (added_body one.body) (record { write = one.write; tag = None }) all.stand one.stands));
      are = subst AreBodies (sym one.bodies) (AreBodies-push bodies one.body all.are one.is);
      many = omega (arith, ap length one.bodies, length-append bodies (one.body ∷ []), all.many, longer);
      log = one.log
          ∙ ap (λ (l : Log). record l { receipts = l.receipts ++ one.write ∷ []; room = new.log.room; waiting = l.waiting + 1 }) all.log
          ∙ ap (λ (l : List Write). record old.log { receipts = l; room = new.log.room; waiting = old.log.waiting + length all.writes + 1 }) (append_assoc old.log.receipts all.writes (one.write ∷ []))
          ∙ ap (λ n. record old.log { receipts = old.log.receipts ++ writes; room = new.log.room; waiting = n }) (omega (arith, longer));
      tags = one.tags
          ∙ ap (λ (t : TagList). record t { tags = t.tags ++ None ∷ []; room = new.tags.room }) all.tags
          ∙ ap (λ (l : List (Option Tag)). record old.tags { tags = l; room = new.tags.room })
          (append_assoc old.tags.tags (replicate (length all.writes) None) (None ∷ [])
          ∙ ap (λ (l : List (Option Tag)). old.tags.tags ++ l) (replicate-append-replicate (length all.writes) 1 None ∙ ap (λ n. replicate n None) (sym longer)));
      doubt = one.doubt ∙ all.doubt;
      taking = one.taking ∙ all.taking;
      together = one.together ∙ all.together;
      places = omega (arith, one.place, ap length one.bodies, length-append bodies (one.body ∷ []), all.many, longer);
    }

-- more room changes nothing
pub roomier_gathered : (id : ℕ) (old mid new : Holding) (given left : List Write) (bodies : List (List ℕ)) → AreGathered id old given left bodies mid → IsRoomier mid new → AreGathered id old given left bodies new
roomier_gathered id old mid new given left bodies all roomier = record {
  writes = all.writes;
  split = all.split;
  takable = all.takable;
  stand = all.stand;
  are = all.are;
  many = all.many;
  log = roomier.log ∙ ap (λ (l : Log). record l { room = new.log.room }) all.log;
  tags = roomier.tags ∙ ap (λ (t : TagList). record t { room = new.tags.room }) all.tags;
  doubt = roomier.doubt ∙ all.doubt;
  taking = roomier.taking ∙ all.taking;
  together = roomier.together ∙ all.together;
  places = omega (arith, all.places, roomier.places);
}
