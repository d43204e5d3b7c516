-- That the bodies of a journal decide what a server holds.
use Rattle.std.proofs.Common.{◌≡◌, ℕ, ◌<◌, zero, suc, List, [], ◌∷◌, ◌++◌, Option, None, Some, get_or, length, refl, sym, ◌∙◌, ap, subst, arith, length-append}
use Rattle.std.proofs.lemmas.List.{append-nil}
use Rattle.bayou_base.specs.declared.tag.Tag.{Tag}
use Rattle.bayou_base.specs.declared.wid.Wid.{Wid}
use Rattle.bayou_journal.specs.Chain.{IsBody}
use Rattle.bayou_journal.specs.Versions.{Body}
use Rattle.bayou_lang.specs.declared.write.Write.{Write}
use Rattle.bayou_tags.specs.Tags.{AreDistinct}
use Rattle.bayou_wire.specs.Records.{SpellsRecord}
use Rattle.bayou_wire.specs.declared.record.Form.{Form}
use Rattle.bayou_wire.specs.declared.record.Record.{Record}
use Rattle.bayou_server.specs.declared.fault.StartFault.{StartFault}
use Rattle.bayou_server.specs.declared.fault.StartFault.TheVariants.{Journal, BadRecord, Gap, LogFull, OutOfMemory}
use Rattle.bayou_server.specs.Reopens.{Recovers}
use Rattle.bayou_server.specs.Server.{AreTags, Core, MayFollow, MayHold, records, records_of}
use Rattle.bayou_server.specs.Stored.{BeginsWithHeld, HasOther, IsBodyOf, Stores, form_of, records_with_doubt}
use Rattle.bayou_server.specs.Starts.{RefusesEntry}
use Rattle.bayou_server.specs.Laws.Stored.{begins_with_held, one_record_more}
use Rattle.bayou_server.proofs.Bodies.{as_many}
use Rattle.bayou_server.proofs.Beside.{new_before, one_each}

-- in each form bytes are of one record
abbrev pub OneRecord : Type 0
OneRecord = (form : Form) (bytes : List ℕ) (a b : Record) → SpellsRecord form bytes a → SpellsRecord form bytes b → a ≡ b

pub one_record : OneRecord → (id : ℕ) (body : Body) (a b : Record) → IsBodyOf id body a → IsBodyOf id body b → a ≡ b
one_record law id body a b is was = law (form_of body.version) body.bytes a b is.spelled was.spelled

-- bodies are of one list of records
pub one_list : OneRecord → (id : ℕ) (bodies : List Body) (stored others : List Record) → Stores id bodies stored → Stores id bodies others → stored ≡ others
one_list law id [] [] [] stores again = refl
one_list law id [] [] (other ∷ others) stores again = absurd again
one_list law id [] (one ∷ stored) others stores again = absurd stores
one_list law id (body ∷ bodies) [] others stores again = absurd stores
one_list law id (body ∷ bodies) (one ∷ stored) [] stores again = absurd again
one_list law id (body ∷ bodies) (one ∷ stored) (other ∷ others) stores again =
    ap (λ (r : Record). r ∷ stored) (one_record law id body one other stores.0 again.0)
    ∙ ap (λ (l : List Record). other ∷ l) (one_list law id bodies stored others stores.1 again.1)

-- no body stands for nothing
pub of_nothing : (id : ℕ) (stored : List Record) → Stores id [] stored → stored ≡ []
of_nothing id [] stores = refl
of_nothing id (one ∷ stored) stores = absurd stores

-- what stands for a record is a body, where each record's bytes are one
pub are_bodies : ((body : Body) (stored : Record) → (id : ℕ) → IsBodyOf id body stored → IsBody body.bytes) → (id : ℕ) (bodies : List Body) (stored : List Record) → Stores id bodies stored
    → (k : ℕ) (d : Body) → k < length bodies → IsBody (get_or bodies k d).bytes
are_bodies law id [] stored stores k d within = absurd (omega arith)
are_bodies law id (body ∷ bodies) [] stores k d within = absurd stores
are_bodies law id (body ∷ bodies) (one ∷ stored) stores zero d within = law body one id stores.0
are_bodies law id (body ∷ bodies) (one ∷ stored) stores (suc k) d within = are_bodies law id bodies stored stores.1 k d (omega arith)

-- the Write of the list, and its tag, whose body stands behind those of the others
pub record Next (id : ℕ) (whole held : List Write) (all tags : List (Option Tag)) (body : Body) : Type 0 where
  pub write : Write
  pub tag : Option Tag
  pub after : List Write
  pub more : List (Option Tag)
  pub split : whole ≡ held ++ write ∷ after
  pub split_tags : all ≡ tags ++ tag ∷ more
  pub stands : IsBodyOf id body (record { write = write; tag = tag })

pub next_of_whole : OneRecord → (id : ℕ) (front : List Body) (body : Body) (rest : List Body) (whole held : List Write) (all tags : List (Option Tag)) → length tags ≡ length held
    → Stores id front (records held tags) → Stores id (front ++ body ∷ rest) (records whole all) → Next id whole held all tags body
next_of_whole law id [] body rest [] held all tags same stores all_stores = absurd all_stores
next_of_whole law id [] body rest (write ∷ whole) held [] tags same stores all_stores = absurd all_stores
next_of_whole law id [] body rest (write ∷ whole) [] (tag ∷ all) [] same stores all_stores = record {
  write = write;
  tag = tag;
  after = whole;
  more = all;
  split = refl;
  split_tags = refl;
  stands = all_stores.0;
}
next_of_whole law id [] body rest (write ∷ whole) [] (tag ∷ all) (t ∷ tags) same stores all_stores = absurd (omega (arith, same))
next_of_whole law id [] body rest (write ∷ whole) (other ∷ held) (tag ∷ all) [] same stores all_stores = absurd (omega (arith, same))
next_of_whole law id [] body rest (write ∷ whole) (other ∷ held) (tag ∷ all) (t ∷ tags) same stores all_stores = absurd stores
next_of_whole law id (one ∷ front) body rest whole [] all tags same stores all_stores = absurd stores
next_of_whole law id (one ∷ front) body rest whole (other ∷ held) all [] same stores all_stores = absurd stores
next_of_whole law id (one ∷ front) body rest [] (other ∷ held) all (t ∷ tags) same stores all_stores = absurd all_stores
next_of_whole law id (one ∷ front) body rest (write ∷ whole) (other ∷ held) [] (t ∷ tags) same stores all_stores = absurd all_stores
next_of_whole law id (one ∷ front) body rest (write ∷ whole) (other ∷ held) (tag ∷ all) (t ∷ tags) same stores all_stores =
    let first : record { write = write; tag = tag } ≡ record { write = other; tag = t } = one_record law id one (record { write = write; tag = tag }) (record { write = other; tag = t }) all_stores.0 stores.0 in
    let next = next_of_whole law id front body rest whole held all tags (omega (arith, same)) stores.1 all_stores.1 in
    record {
      write = next.write;
      tag = next.tag;
      after = next.after;
      more = next.more;
      split = ap (λ (w : Write). w ∷ whole) (ap (λ (r : Record). r.write) first) ∙ ap (λ (l : List Write). other ∷ l) next.split;
      split_tags = ap (λ (o : Option Tag). o ∷ all) (ap (λ (r : Record). r.tag) first) ∙ ap (λ (l : List (Option Tag)). t ∷ l) next.split_tags;
      stands = next.stands;
    }

-- a Write that a server holds may follow those before it
follows_before : (server count limit : ℕ) (whole before : List Write) (write : Write) (after : List Write) → MayHold server count limit whole → whole ≡ before ++ write ∷ after
    → MayFollow server count before write
follows_before server count limit whole before write after holds split = record {
  fits = holds.sound.fitting before write after split;
  own = holds.sound.own before write after split;
}

-- the Write that stands where an entry isn't taken
next_refused : OneRecord → {id count limit : ℕ} {bodies : List Body} {fault : StartFault} (whole : List Write) (all : List (Option Tag)) → Stores id bodies (records whole all)
    → (refuses : RefusesEntry id count limit bodies fault) → Next id whole refuses.held all refuses.tags refuses.body
next_refused law {id} whole all stores refuses =
    next_of_whole law id refuses.front refuses.body refuses.rest whole refuses.held all refuses.tags (one_each id refuses.held refuses.tags refuses.tagged) refuses.stores
    (subst (λ (b : List Body). Stores id b (records whole all)) refuses.split stores)

-- the bodies of what a server may hold have no entry that it doesn't take
pub none_refused : OneRecord → (id count limit : ℕ) (whole : List Write) (all : List (Option Tag)) (bodies : List Body) (fault : StartFault) → MayHold id count limit whole
    → AreTags id whole all → Stores id bodies (records whole all) → RefusesEntry id count limit bodies fault → ⊥
none_refused law id count limit whole all bodies (BadRecord at) holds tagged stores refuses =
    let next = next_refused law whole all stores refuses in
    refuses.why.1 (record { write = next.write; tag = next.tag })
    (record { is = next.stands; new = new_before refuses.tags next.more next.tag (subst AreDistinct next.split_tags tagged.distinct) })
none_refused law id count limit whole all bodies (Gap at) holds tagged stores refuses =
    let next = next_refused law whole all stores refuses in
    let (other, admitted, unfit) = refuses.why.1 in
    let one : record { write = next.write; tag = next.tag } ≡ other = one_record law id refuses.body (record { write = next.write; tag = next.tag }) other next.stands admitted.is in
    unfit (subst (λ (r : Record). MayFollow id count refuses.held r.write) one (follows_before id count limit whole refuses.held next.write next.after holds next.split))
none_refused law id count limit whole all bodies LogFull holds tagged stores refuses =
    let next = next_refused law whole all stores refuses in
    omega (arith, ap length next.split, length-append refuses.held (next.write ∷ next.after), holds.within, refuses.why.0)
none_refused law id count limit whole all bodies OutOfMemory holds tagged stores refuses = refuses.why
none_refused law id count limit whole all bodies (Journal fault) holds tagged stores refuses = refuses.why

-- the bodies decide what is adopted
longer_by_one : (core : Core) (bodies : List Body) (doubt : Write) → Stores core.id bodies (records_of core) → Stores core.id bodies (records_with_doubt core doubt) → ⊥
longer_by_one core bodies doubt stores again =
    let more = one_record_more core.held core.tags doubt core.doubt_tag in
    omega (
      arith,
      as_many (IsBodyOf core.id) bodies (records_of core) stores,
      as_many (IsBodyOf core.id) bodies (records_with_doubt core doubt) again,
      ap (λ (l : List Record). length l) more.1,
      length-append (records_of core) (more.0 ∷ []),
    )

pub one_adopted : (old : Core) (adopts other : Option Wid) (new next : Core) (bodies : List Body) → Recovers old adopts new → Recovers old other next
    → Stores old.id bodies (records_of new) → Stores old.id bodies (records_of next) → (adopts ≡ other) × (new.held ≡ next.held) × (new.tags ≡ next.tags)
one_adopted old None None new next bodies is was stores again =
    let same = is.1 ∙ sym was.1 in
    (refl, ap (λ (c : Core). c.held) same, ap (λ (c : Core). c.tags) same)
one_adopted old None (Some wid) new next bodies is was stores again =
    absurd (longer_by_one old bodies was.0 (subst (Stores old.id bodies) (ap records_of is.1) stores) (subst (Stores old.id bodies) (ap records_of was.3) again))
one_adopted old (Some wid) None new next bodies is was stores again =
    absurd (longer_by_one old bodies is.0 (subst (Stores old.id bodies) (ap records_of was.1) again) (subst (Stores old.id bodies) (ap records_of is.3) stores))
one_adopted old (Some wid) (Some name) new next bodies is was stores again =
    let both : Some is.0 ≡ Some was.0 = sym is.1 ∙ was.1 in
    let one : is.0 ≡ was.0 = cc in
    let same = is.3 ∙ ap (λ (w : Write). record old { held = old.held ++ w ∷ []; tags = old.tags ++ old.doubt_tag ∷ []; doubt = None; doubt_tag = None }) one ∙ sym was.3 in (
      ap (λ (w : Wid). Some w) (is.2 ∙ ap (λ (w : Write). w.wid) one ∙ sym was.2),
      ap (λ (c : Core). c.held) same,
      ap (λ (c : Core). c.tags) same,
    )

-- what is up again begins with what was held
pub begins_again : (old : Core) (adopts : Option Wid) (new : Core) (bodies : List Body) → Recovers old adopts new → Stores old.id bodies (records_of new)
    → BeginsWithHeld old.id (records_of old) bodies
begins_again old None new bodies is stores = record {
  front = bodies;
  more = [];
  stores = subst (Stores old.id bodies) (ap records_of is.1) stores;
  split = sym (append-nil bodies);
}
begins_again old (Some wid) new bodies is stores =
    begins_with_held old is.0 bodies (subst (Stores old.id bodies) (ap records_of is.3) stores)

pub nothing_other : (old : Core) (doubt : Write) (adopts : Option Wid) (new : Core) (bodies : List Body) → old.doubt ≡ Some doubt → Recovers old adopts new → Stores old.id bodies (records_of new)
    → HasOther old doubt bodies → ⊥
nothing_other old doubt None new bodies was is stores has = has.not_held (subst (Stores old.id bodies) (ap records_of is.1) stores)
nothing_other old doubt (Some wid) new bodies was is stores has =
    let both : Some is.0 ≡ Some doubt = sym is.1 ∙ was in
    let one : is.0 ≡ doubt = cc in
    has.not_adopted (subst (λ (w : Write). Stores old.id bodies (records_with_doubt old w)) one (subst (Stores old.id bodies) (ap records_of is.3) stores))
