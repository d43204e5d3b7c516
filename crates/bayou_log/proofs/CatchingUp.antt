-- The Writes that wait are applied: those behind the first of their places are taken back, and are applied again among them.
use Rattle.std.proofs.Common.{◌≡◌, ℕ, ◌+◌, ◌<◌, ◌≤◌, ◌-◌, List, [], ◌∷◌, ◌++◌, length, take, drop, All, IsTrue, ap, sym, ◌∙◌, subst, arith}
use Rattle.std.proofs.lemmas.List.{take-append-drop, take_rest}
use Rattle.std.proofs.lemmas.List.Elements.{All-head, All-tail, All-take}
use Rattle.bayou_lang.specs.declared.change.Change.{Change}
use Rattle.bayou_lang.specs.declared.write.Write.{Write}
use Rattle.bayou_lang.specs.Laws.StampOrder.{All-place_by_stamp}
use Rattle.bayou_lang.specs.Database.{empty}
use Rattle.bayou_lang.specs.Writes.{in_stamp_order}
use Rattle.bayou_log.specs.Db.{Slots, database_of, room, has_room, HasRoomFor}
use Rattle.bayou_log.specs.Inner.Fields.{picked, AgreesWith, AreApplied, HasRoomForAll}
use Rattle.bayou_log.specs.Inner.Undone.{after_undoing, changes_in, changes_of, AddsUndone, AreUndos, Stack}
use Rattle.bayou_log.specs.Replay.{after_writes}
use Rattle.bayou_log.proofs.Agrees.{after_writes-append, applied_few}
use Rattle.bayou_log.proofs.Picked.{drop_picked_any, picked-more, take_picked_any, AreInside}
use Rattle.bayou_log.proofs.Undone.{changes_of-append, changes_of-in_stamp_order, AreUndos-append, AreUndos-few, AreUndos-reached, AreUndos-take, AreUndos-undoing}

All-in_stamp_order : (P : Write → Type 0) (writes : List Write) → All P writes → All P (in_stamp_order writes)
All-in_stamp_order P [] all = all
All-in_stamp_order P (write ∷ writes) all = All-place_by_stamp P write (in_stamp_order writes) (All-head P write writes all) (All-in_stamp_order P writes (All-tail P write writes all))

-- what is left of a slice's items from a place on
pub rest_of : (xs ys : List ℕ) (n : ℕ) → xs ≡ ys → take (length xs - n) (drop n xs) ≡ drop n ys
rest_of xs ys n same = take_rest xs n ∙ ap (drop n) same

-- the places of those that are applied, among all
pub applied_inside : (writes : List Write) (order : List ℕ) (slots : Slots) (undos : List (List Change)) → AreApplied (take (length order) writes) order slots undos
    → All (λ at. at < length order) order
applied_inside writes order slots undos applied k d within = omega (arith, applied.inside k d within, applied.as_many)

pub applied_in_order : (writes : List Write) (order : List ℕ) (slots : Slots) (undos : List (List Change)) → AreApplied (take (length order) writes) order slots undos
    → picked writes order ≡ in_stamp_order (take (length order) writes)
applied_in_order writes order slots undos applied =
    ap (λ list. picked list order) (sym (take-append-drop (length order) writes))
    ∙ picked-more (take (length order) writes) (drop (length order) writes) order applied.inside ∙ applied.in_order

-- each key that is put back has room
pub undos_reached : (writes : List Write) (order : List ℕ) (old : Slots) (vector : List ℕ) (clock : ℕ) (undos : List (List Change)) → AgreesWith writes old vector clock
    → AreApplied (take (length order) writes) order old undos → All (λ undo. All (λ change. IsTrue (has_room (room old) change.key)) undo) undos
undos_reached writes order old vector clock undos agrees applied =
    let P : Write → Type 0 = λ write. HasRoomFor (room old) write.program in
    AreUndos-reached (room old) undos (in_stamp_order (take (length order) writes)) empty applied.undos
    (All-in_stamp_order P (take (length order) writes) (All-take P (length order) writes agrees.room))

module _ (writes : List Write) (order placed : List ℕ) (old : Slots) (n capacity : ℕ) (stack : Stack)
    (applied : AreApplied (take (length order) writes) order old stack.undos)
    (inside : AreInside writes placed) (in_order : picked writes placed ≡ in_stamp_order writes) (front : take n placed ≡ take n order)
    (within : n ≤ length order) (whole : length placed ≡ length writes) where
  abbrev pub first : List Write
  first = in_stamp_order (take (length order) writes)

  -- the Writes that stay applied
  pub stays : take n (in_stamp_order writes) ≡ take n first
  stays =
      let few = (applied_few writes order old stack.undos applied).0 in
      let among : AreInside writes order = λ k d here. omega (arith, applied_inside writes order old stack.undos applied k d here, few) in
      ap (take n) (sym in_order) ∙ sym (take_picked_any writes n placed inside) ∙ ap (picked writes) front
      ∙ take_picked_any writes n order among ∙ ap (take n) (applied_in_order writes order old stack.undos applied)

  -- those that are applied again, and those that waited
  pub again : picked writes (drop n placed) ≡ drop n (in_stamp_order writes)
  again = drop_picked_any writes n placed inside ∙ ap (drop n) in_order

  pub changes_fit : HasRoomForAll writes capacity stack → changes_in (take n stack.undos) + changes_of (drop n (in_stamp_order writes)) ≤ stack.room
  changes_fit has =
      omega (
        arith,
        AreUndos-few (take n stack.undos) (take n first) empty (AreUndos-take stack.undos first empty n applied.undos),
        ap changes_of stays,
        changes_of-append (take n (in_stamp_order writes)) (drop n (in_stamp_order writes)),
        ap changes_of (take-append-drop n (in_stamp_order writes)),
        changes_of-in_stamp_order writes,
        has.promised,
        has.room,
      )

  -- the database, those behind the place taken back
  pub taken_back : after_undoing (drop n stack.undos) (database_of old) ≡ after_writes (take n (in_stamp_order writes)) empty
  taken_back =
      ap (after_undoing (drop n stack.undos)) applied.replayed
      ∙ AreUndos-undoing stack.undos first empty n applied.undos
      ∙ ap (λ list. after_writes list empty) (sym stays)

  pub AreApplied-again : (before new : Slots) (left now : Stack)
      → database_of before ≡ after_undoing (drop n stack.undos) (database_of old) → database_of new ≡ after_writes (drop n (in_stamp_order writes)) (database_of before)
      → left ≡ record stack { undos = take n stack.undos } → AddsUndone (drop n (in_stamp_order writes)) (database_of before) left now
      → AreApplied writes placed new now.undos
  AreApplied-again before new left now back after cut adds =
      let all = take-append-drop n (in_stamp_order writes) in
      let undos_now : now.undos ≡ take n stack.undos ++ adds.more = ap (λ (s : Stack). s.undos) adds.only ∙ ap (λ (s : Stack). s.undos ++ adds.more) cut in
      let more = subst (AreUndos adds.more (drop n (in_stamp_order writes))) (back ∙ taken_back) adds.undo in
      let old_ones = subst (λ list. AreUndos (take n stack.undos) list empty) (sym stays) (AreUndos-take stack.undos first empty n applied.undos) in
      let both = AreUndos-append (take n stack.undos) adds.more (take n (in_stamp_order writes)) (drop n (in_stamp_order writes)) empty old_ones more in
      record {
        as_many = whole;
        inside = inside;
        in_order = in_order;
        replayed = after ∙ ap (after_writes (drop n (in_stamp_order writes))) (back ∙ taken_back)
            ∙ sym (after_writes-append (take n (in_stamp_order writes)) (drop n (in_stamp_order writes)) empty)
            ∙ ap (λ list. after_writes list empty) all;
        undos = subst (λ undos. AreUndos undos (in_stamp_order writes) empty) (sym undos_now)
            (subst (λ list. AreUndos (take n stack.undos ++ adds.more) list empty) all both);
      }
