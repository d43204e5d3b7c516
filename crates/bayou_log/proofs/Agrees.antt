-- The fields of a log still belong together after its calls.
use Rattle.std.proofs.Common.{◌≡◌, ℕ, ◌+◌, ◌<◌, ◌≤◌, max, set, List, [], ◌∷◌, ◌++◌, length, take, get_or, ap, sym, ◌∙◌, refl, subst, arith, length-append, length-take}
use Rattle.std.proofs.lemmas.List.{take-append-le}
use Rattle.std.proofs.lemmas.List.Elements.{All-push, All-weaker}
use Rattle.bayou_base.specs.Vector.{raised}
use Rattle.bayou_lang.specs.declared.change.Change.{Change}
use Rattle.bayou_lang.specs.declared.write.Write.{Write}
use Rattle.bayou_lang.specs.Changes.{most_changes}
use Rattle.bayou_lang.specs.Database.{Database, empty}
use Rattle.bayou_lang.specs.Meaning.{mean}
use Rattle.bayou_lang.specs.Writes.{count_of, in_stamp_order, Fits}
use Rattle.bayou_log.specs.Db.{Slots, database_of, room, HasRoomFor, KeepsRoom}
use Rattle.bayou_log.specs.Inner.Fields.{AgreesWith, AreApplied, AreKept, HasRoomForAll}
use Rattle.bayou_log.specs.Inner.Undone.{Stack}
use Rattle.bayou_lang.specs.Laws.Fitting.{count_of-most, count_of-push, greatest_clock-push, AreFitting-push}
use Rattle.bayou_lang.specs.Laws.StampOrder.{length-in_stamp_order}
use Rattle.bayou_log.specs.Replay.{after_writes}
use Rattle.bayou_log.proofs.Undone.{changes_of-append, AreUndos-length}

-- with more room
pub AgreesWith-more_room : (writes more : List Write) (old new : Slots) (vector : List ℕ) (clock : ℕ) → more ≡ writes → AgreesWith writes old vector clock
    → KeepsRoom (room old) (room new) → AgreesWith more new vector clock
AgreesWith-more_room writes more old new vector clock same agrees keeps = subst (λ list. AgreesWith list new vector clock) (sym same) (record {
  room = All-weaker (λ write. HasRoomFor (room old) write.program) (λ write. HasRoomFor (room new) write.program)
      (λ write h k d within. keeps _ (h k d within)) writes agrees.room;
  counted = agrees.counted;
  latest = agrees.latest;
})

pub AreApplied-more_room : (writes more : List Write) (order placed : List ℕ) (old new : Slots) (undos others : List (List Change)) → more ≡ writes → placed ≡ order → others ≡ undos
    → database_of new ≡ database_of old → AreApplied (take (length order) writes) order old undos → AreApplied (take (length placed) more) placed new others
AreApplied-more_room writes more order placed old new undos others same_writes same_order same_undos same applied =
    subst (λ list. AreApplied (take (length placed) list) placed new others) (sym same_writes)
    (subst (λ list. AreApplied (take (length list) writes) list new others) (sym same_order)
    (subst (AreApplied (take (length order) writes) order new) (sym same_undos) (record {
      as_many = applied.as_many;
      inside = applied.inside;
      in_order = applied.in_order;
      replayed = same ∙ applied.replayed;
      undos = applied.undos;
    })))

pub HasRoomForAll-more_room : (writes more : List Write) (capacity wider : ℕ) (old new : Stack) → more ≡ writes → HasRoomForAll writes capacity old → new.promised ≡ old.promised
    → (capacity ≤ wider) × (old.room ≤ new.room) × (old.places ≤ new.places) → HasRoomForAll more wider new
HasRoomForAll-more_room writes more capacity wider old new same_writes has same_promise kept =
    subst (λ list. HasRoomForAll list wider new) (sym same_writes) (record {
      order = omega (arith, has.order, kept.0);
      promised = same_promise ∙ has.promised;
      room = omega (arith, same_promise, has.room, kept.1);
      places = omega (arith, has.places, kept.2);
    })

-- with one more Write
pub AreKept-push : (count limit : ℕ) (writes more : List Write) (write : Write) → more ≡ writes ++ write ∷ [] → AreKept count limit writes
    → Fits count writes write → length writes < limit → AreKept count limit more
AreKept-push count limit writes more write same kept fits below =
    let pushed : AreKept count limit (writes ++ write ∷ []) = record {
      servers = kept.servers;
      limit_in_range = kept.limit_in_range;
      fitting = AreFitting-push count writes write kept.fitting fits;
      within = omega (arith, length-append writes (write ∷ []));
    } in
    subst (AreKept count limit) (sym same) pushed

-- no count is greater than the number of the Writes
pub ruleset counts_within = (count_of-most)

-- the counts of the Writes with one more that fits
pub raised_vector : (count : ℕ) (writes : List Write) (vector : List ℕ) (write : Write) → vector ≡ count_of writes → Fits count writes write
    → raised vector write.wid ≡ count_of (writes ++ write ∷ [])
raised_vector count writes vector write counted fits =
    let i = write.wid.origin.index in
    let greater : max (get_or (count_of writes) i 0) write.wid.seq ≡ get_or (count_of writes) i 0 + 1 = omega (arith, fits.0.next) in
    ap (λ counts. raised counts write.wid) counted ∙ ap (set (count_of writes) i) greater ∙ sym (count_of-push writes write)

pub after_writes-append : (xs ys : List Write) (before : Database) → after_writes (xs ++ ys) before ≡ after_writes ys (after_writes xs before)
after_writes-append [] ys before = refl
after_writes-append (write ∷ xs) ys before = after_writes-append xs ys (mean write.program before).1

-- with one more Write
pub AgreesWith-push : (count : ℕ) (writes : List Write) (slots : Slots) (vector : List ℕ) (clock : ℕ) (write : Write)
    → AgreesWith writes slots vector clock → Fits count writes write → HasRoomFor (room slots) write.program
    → AgreesWith (writes ++ write ∷ []) slots (raised vector write.wid) (max clock write.stamp.clock)
AgreesWith-push count writes slots vector clock write agrees fits reserved = record {
  room = All-push (λ held. HasRoomFor (room slots) held.program) writes write agrees.room reserved;
  counted = raised_vector count writes vector write agrees.counted fits;
  latest = omega (arith, agrees.latest, greatest_clock-push writes write);
}

pub AgreesWith-same : (writes more : List Write) (slots : Slots) (vector counts : List ℕ) (clock later : ℕ)
    → more ≡ writes → counts ≡ vector → later ≡ clock → AgreesWith writes slots vector clock → AgreesWith more slots counts later
AgreesWith-same writes more slots vector counts clock later same_writes same_vector same_clock agrees =
    subst (λ list. AgreesWith list slots counts later) (sym same_writes)
    (subst (λ list. AgreesWith writes slots list later) (sym same_vector)
    (subst (AgreesWith writes slots vector) (sym same_clock) agrees))

-- those that are applied stay so
pub AreApplied-now : (writes more : List Write) (write : Write) (order : List ℕ) (slots : Slots) (undos others : List (List Change)) → more ≡ writes ++ write ∷ [] → others ≡ undos
    → AreApplied (take (length order) writes) order slots undos → AreApplied (take (length order) more) order slots others
AreApplied-now writes more write order slots undos others same_writes same_undos applied =
    let few : length order ≤ length writes = omega (arith, applied.as_many, length-take (length order) writes) in
    subst (λ list. AreApplied list order slots others) (sym (ap (take (length order)) same_writes ∙ take-append-le (length order) writes (write ∷ []) few))
    (subst (AreApplied (take (length order) writes) order slots) (sym same_undos) applied)

pub HasRoomForAll-push : (writes : List Write) (write : Write) (capacity most : ℕ) (old new : Stack) → HasRoomForAll writes capacity old → most ≡ most_changes write.program
    → new ≡ record old { promised = old.promised + most } → old.promised + most ≤ old.room → (length writes < capacity) × (length writes < old.places)
    → HasRoomForAll (writes ++ write ∷ []) capacity new
HasRoomForAll-push writes write capacity most old new has is promises within below = record {
  order = omega (arith, below.0, length-append writes (write ∷ []));
  promised = ap (λ (s : Stack). s.promised) promises ∙ omega (arith, has.promised, is, changes_of-append writes (write ∷ []));
  room = omega (arith, within, ap (λ (s : Stack). s.promised) promises, ap (λ (s : Stack). s.room) promises);
  places = omega (arith, below.1, length-append writes (write ∷ []), ap (λ (s : Stack). s.places) promises);
}

-- how many are applied
pub applied_few : (writes : List Write) (order : List ℕ) (slots : Slots) (undos : List (List Change)) → AreApplied (take (length order) writes) order slots undos
    → (length order ≤ length writes) × (length undos ≡ length order)
applied_few writes order slots undos applied = (
  omega (arith, applied.as_many, length-take (length order) writes),
  AreUndos-length undos (in_stamp_order (take (length order) writes)) empty applied.undos ∙ length-in_stamp_order (take (length order) writes) ∙ sym applied.as_many,
)
