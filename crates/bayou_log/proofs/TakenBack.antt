-- The fields of a log still belong together once the last Write was taken back.
use Rattle.std.proofs.Common.{◌≡◌, ◌≢◌, ℕ, ◌+◌, ◌-◌, ◌<◌, ◌≤◌, true, false, ◌==◌, List, [], ◌∷◌, ◌++◌, All, length, take, get_or, slice_index, ap, sym, ◌∙◌, refl, subst, arith, length-append}
use Rattle.std.proofs.lemmas.Bool.Decides.{nat_tests}
use Rattle.std.proofs.lemmas.List.{get_or_append_left, take-append-le}
use Rattle.bayou_lang.specs.declared.change.Change.{Change}
use Rattle.bayou_lang.specs.declared.eval.Outcome.{Outcome}
use Rattle.bayou_lang.specs.declared.write.Write.{Write}
use Rattle.bayou_lang.specs.Changes.{most_changes}
use Rattle.bayou_lang.specs.Database.{empty}
use Rattle.bayou_lang.specs.Laws.Fitting.{count_of-push, counted-other, counted-own, fitting-front, fitting_is_prefix_closed}
use Rattle.bayou_lang.specs.Writes.{count_of, counted, greatest_clock, in_stamp_order, AreFitting}
use Rattle.bayou_log.specs.Db.{Slots, room, HasRoomFor}
use Rattle.bayou_log.specs.Inner.Fields.{AgreesWith, AreApplied, AreKept, AreOutcomes, HasRoomForAll, outcomes_after}
use Rattle.bayou_log.specs.Inner.Index.{place_in, places_of, AreIndexed}
use Rattle.bayou_log.specs.Inner.Undone.{Stack}
use Rattle.bayou_log.proofs.Indexed.{place_kept}
use Rattle.bayou_log.proofs.Undone.{changes_of-append}

All-front : (P : Write → Type 0) (xs ys : List Write) → All P (xs ++ ys) → All P xs
All-front P xs ys all k e within = subst P (get_or_append_left xs ys e k within) (all k e (omega (arith, within, length-append xs ys)))

pub AreKept-back : (count limit : ℕ) (writes : List Write) (write : Write) → AreKept count limit (writes ++ write ∷ []) → AreKept count limit writes
AreKept-back count limit writes write kept = record {
  servers = kept.servers;
  limit_in_range = kept.limit_in_range;
  fitting = fitting-front count writes (write ∷ []) kept.fitting;
  within = omega (arith, kept.within, length-append writes (write ∷ []));
}

pub AgreesWith-back : (writes : List Write) (slots : Slots) (vector counts : List ℕ) (clock latest : ℕ) (write : Write) → AgreesWith (writes ++ write ∷ []) slots vector clock
    → counts ≡ count_of writes → latest ≡ greatest_clock writes → AgreesWith writes slots counts latest
AgreesWith-back writes slots vector counts clock latest write agrees counted is = record {
  room = All-front (λ (held : Write). HasRoomFor (room slots) held.program) writes (write ∷ []) agrees.room;
  counted = counted;
  latest = is;
}

pub AreApplied-back : (writes : List Write) (write : Write) (order : List ℕ) (slots : Slots) (undos : List (List Change)) → length order ≤ length writes
    → AreApplied (take (length order) (writes ++ write ∷ [])) order slots undos → AreApplied (take (length order) writes) order slots undos
AreApplied-back writes write order slots undos within applied =
    subst (λ list. AreApplied list order slots undos) (take-append-le (length order) writes (write ∷ []) within) applied

pub promised_by_all : (writes : List Write) (write : Write) (capacity : ℕ) (stack : Stack) → HasRoomForAll (writes ++ write ∷ []) capacity stack → most_changes write.program ≤ stack.promised
promised_by_all writes write capacity stack has = omega (arith, has.promised, changes_of-append writes (write ∷ []))

pub HasRoomForAll-back : (writes : List Write) (write : Write) (capacity most : ℕ) (old new : Stack) → HasRoomForAll (writes ++ write ∷ []) capacity old → most ≡ most_changes write.program
    → new ≡ record old { promised = old.promised - most } → HasRoomForAll writes capacity new
HasRoomForAll-back writes write capacity most old new has is less = record {
  order = omega (arith, has.order, length-append writes (write ∷ []));
  promised = ap (λ (s : Stack). s.promised) less ∙ omega (arith, has.promised, is, changes_of-append writes (write ∷ []));
  room = omega (arith, has.room, ap (λ (s : Stack). s.promised) less, ap (λ (s : Stack). s.room) less);
  places = omega (arith, has.places, length-append writes (write ∷ []), ap (λ (s : Stack). s.places) less);
}

pub AreOutcomes-back : (writes : List Write) (write : Write) (applied : ℕ) (outcomes : List Outcome) (capacity : ℕ) → applied ≤ length writes
    → AreOutcomes (writes ++ write ∷ []) applied outcomes capacity → AreOutcomes writes applied outcomes capacity
AreOutcomes-back writes write applied outcomes capacity within are = record {
  each = are.each ∙ ap (λ list. outcomes_after (in_stamp_order list) empty) (take-append-le applied writes (write ∷ []) within);
  room = omega (arith, are.room, length-append writes (write ∷ []));
}

-- the last Write has a place in the index
pub has_place : (rows : List (List ℕ)) (writes : List Write) (write : Write) → AreIndexed rows (writes ++ write ∷ []) → 0 < length (places_of rows write.wid.origin.index)
has_place rows writes write indexed =
    omega (arith, indexed.counts write.wid.origin.index, ap (λ counts. slice_index counts write.wid.origin.index) (count_of-push writes write), counted-own writes write)

pub AreIndexed-back : (count : ℕ) (rows new : List (List ℕ)) (writes : List Write) (write : Write) (last : ℕ) → AreFitting count writes → AreIndexed rows (writes ++ write ∷ [])
    → places_of rows write.wid.origin.index ≡ places_of new write.wid.origin.index ++ last ∷ []
    → ((server : ℕ) → server ≢ write.wid.origin.index → places_of new server ≡ places_of rows server) → AreIndexed new writes
AreIndexed-back count rows new writes write last fitting indexed own others = record {
  places = λ k d within.
      let held = get_or writes k d in
      let same : get_or (writes ++ write ∷ []) k d ≡ held = get_or_append_left writes (write ∷ []) d k within in
      let there : place_in rows held.wid.origin.index held.wid.seq ≡ k =
      subst (λ (w : Write). place_in rows w.wid.origin.index w.wid.seq ≡ k) same (indexed.places k d (omega (arith, within, length-append writes (write ∷ [])))) in
      let seq_within : held.wid.seq ≤ length (places_of new held.wid.origin.index) =
      omega (arith, (fitting_is_prefix_closed count writes fitting).none_beyond k d within, counts held.wid.origin.index) in
      sym (place_kept new rows write.wid.origin.index held.wid.origin.index held.wid.seq last held.wid.in_range.0 seq_within own (λ server other. sym (others server other))) ∙ there;
  counts = counts;
}
  where
    counts : (server : ℕ) → length (places_of new server) ≡ slice_index (count_of writes) server
    counts server =
        elim (write.wid.origin.index == server) as (λ t. (write.wid.origin.index == server) ≡ t → length (places_of new server) ≡ slice_index (count_of writes) server) [
          | true ↦ λ is.
              let same : write.wid.origin.index ≡ server = grind (arith, nat_tests) in
              let before : slice_index (count_of (writes ++ write ∷ [])) write.wid.origin.index ≡ slice_index (count_of writes) write.wid.origin.index + 1 =
              ap (λ counts. slice_index counts write.wid.origin.index) (count_of-push writes write) ∙ counted-own writes write in
              let shorter : length (places_of rows write.wid.origin.index) ≡ length (places_of new write.wid.origin.index) + 1 = ap length own ∙ length-append (places_of new write.wid.origin.index) (last ∷ []) in
              let here : length (places_of new write.wid.origin.index) ≡ slice_index (count_of writes) write.wid.origin.index = omega (arith, before, shorter, indexed.counts write.wid.origin.index) in
              subst (λ s. length (places_of new s) ≡ slice_index (count_of writes) s) same here
          | false ↦ λ isnt.
              let differ : write.wid.origin.index ≢ server = λ same. grind (arith, nat_tests) in
              let kept : slice_index (count_of (writes ++ write ∷ [])) server ≡ slice_index (count_of writes) server =
              ap (λ counts. slice_index counts server) (count_of-push writes write) ∙ counted-other (count_of writes) write.wid server differ in
              ap length (others server (λ same. differ (sym same))) ∙ indexed.counts server ∙ kept
        ] refl
