-- What the index of a log tells of its Writes.
use Rattle.std.proofs.Common.{◌≡◌, ◌≢◌, ℕ, ◌+◌, ◌-◌, ◌<◌, ◌≤◌, true, false, nat_lt, ◌==◌, List, [], ◌∷◌, ◌++◌, length, get_or, slice_index, All, ap, sym, ◌∙◌, refl, subst, arith, length-append}
use Rattle.std.proofs.lemmas.Bool.Decides.{nat_tests}
use Rattle.std.proofs.lemmas.List.{get_or_append_left, get_or_push, get_or_default}
use Rattle.bayou_base.specs.declared.wid.Wid.{Wid}
use Rattle.bayou_lang.specs.declared.write.Write.{Write}
use Rattle.bayou_lang.specs.Laws.Fitting.{count_of-push, counted-other, counted-own, fitting_is_prefix_closed}
use Rattle.bayou_lang.specs.Writes.{count_of, counted, AreFitting, Fits}
use Rattle.bayou_log.specs.Inner.Index.{place_in, places_of, AreIndexed}

-- the place of a Write that the counts count
pub place_held : (count : ℕ) (rows : List (List ℕ)) (writes : List Write) (server seq : ℕ) → AreFitting count writes → AreIndexed rows writes → 0 < seq → seq ≤ slice_index (count_of writes) server
    → (place_in rows server seq < length writes) × ((d : Write) → ((get_or writes (place_in rows server seq) d).wid.origin.index ≡ server) × ((get_or writes (place_in rows server seq) d).wid.seq ≡ seq))
place_held count rows writes server seq fitting indexed some within =
    let found = (fitting_is_prefix_closed count writes fitting).none_missing server seq some within in
    let k = found.0 in
    let write = found.1 in
    let is : get_or writes k write ≡ write = found.3 in
    let at : place_in rows server seq ≡ k =
    ap (λ s. place_in rows s seq) (sym found.4.0) ∙ ap (place_in rows write.wid.origin.index) (sym found.4.1)
    ∙ ap (λ (w : Write). place_in rows w.wid.origin.index w.wid.seq) (sym is) ∙ indexed.places k write found.2 in (
      subst (λ p. p < length writes) (sym at) found.2,
      λ d. subst (λ p. ((get_or writes p d).wid.origin.index ≡ server) × ((get_or writes p d).wid.seq ≡ seq)) (sym at)
          (subst (λ (w : Write). (w.wid.origin.index ≡ server) × (w.wid.seq ≡ seq)) (sym (get_or_default writes k d write found.2 ∙ is)) found.4),
    )

-- a name that the counts don't cover is of no held Write
pub none_of_wid : (count : ℕ) (writes : List Write) (wid : Wid) → AreFitting count writes → (wid.seq ≤ slice_index (count_of writes) wid.origin.index → ⊥) → All (λ held. held.wid ≢ wid) writes
none_of_wid count writes wid fitting missed k d within same =
    missed (subst (λ (w : Wid). w.seq ≤ slice_index (count_of writes) w.origin.index) same ((fitting_is_prefix_closed count writes fitting).none_beyond k d within))

-- a place stays where it is as one is added, whoever's it is
pub place_kept : (rows new : List (List ℕ)) (origin server seq place : ℕ) → 0 < seq → seq ≤ length (places_of rows server) → places_of new origin ≡ places_of rows origin ++ place ∷ []
    → ((server : ℕ) → server ≢ origin → places_of new server ≡ places_of rows server) → place_in new server seq ≡ place_in rows server seq
place_kept rows new origin server seq place some within own others =
    elim (server == origin) as (λ t. (server == origin) ≡ t → place_in new server seq ≡ place_in rows server seq) [
      | true ↦ λ is.
          let same : server ≡ origin = grind (arith, nat_tests) in
          let here = ap (places_of new) same ∙ own ∙ ap (λ at. places_of rows at ++ place ∷ []) (sym same) in
          ap (λ list. slice_index list (seq - 1)) here ∙ get_or_append_left (places_of rows server) (place ∷ []) 0 (seq - 1) (omega (arith, some, within))
      | false ↦ λ isnt.
          let other : server ≢ origin = λ same. grind (arith, nat_tests) in
          ap (λ list. slice_index list (seq - 1)) (others server other)
    ] refl

-- the index with one more Write
pub AreIndexed-push : (count : ℕ) (rows new : List (List ℕ)) (writes : List Write) (write : Write) → AreFitting count writes → Fits count writes write → AreIndexed rows writes
    → places_of new write.wid.origin.index ≡ places_of rows write.wid.origin.index ++ length writes ∷ []
    → ((server : ℕ) → server ≢ write.wid.origin.index → places_of new server ≡ places_of rows server) → AreIndexed new (writes ++ write ∷ [])
AreIndexed-push count rows new writes write fitting fits indexed own others =
    let next : write.wid.seq ≡ length (places_of rows write.wid.origin.index) + 1 = omega (arith, fits.0.next, indexed.counts write.wid.origin.index) in
    record {
      places = λ k d within.
          elim (nat_lt k (length writes)) as (λ t. nat_lt k (length writes) ≡ t → place_in new (get_or (writes ++ write ∷ []) k d).wid.origin.index (get_or (writes ++ write ∷ []) k d).wid.seq ≡ k) [
            | true ↦ λ is.
                let before : k < length writes = grind (arith, nat_tests) in
                let held = get_or writes k d in
                let seq_within : held.wid.seq ≤ length (places_of rows held.wid.origin.index) =
                omega (arith, (fitting_is_prefix_closed count writes fitting).none_beyond k d before, indexed.counts held.wid.origin.index) in
                subst (λ (w : Write). place_in new w.wid.origin.index w.wid.seq ≡ k) (sym (get_or_append_left writes (write ∷ []) d k before))
                (place_kept rows new write.wid.origin.index held.wid.origin.index held.wid.seq (length writes) held.wid.in_range.0 seq_within own others ∙ indexed.places k d before)
            | false ↦ λ isnt.
                let last : length writes ≡ k = grind (arith, nat_tests, length-append writes (write ∷ [])) in
                let at : write.wid.seq - 1 ≡ length (places_of rows write.wid.origin.index) = omega (arith, next) in
                subst (λ (w : Write). place_in new w.wid.origin.index w.wid.seq ≡ k) (sym (get_or_push writes write d k last))
                (ap (λ list. slice_index list (write.wid.seq - 1)) own ∙ get_or_push (places_of rows write.wid.origin.index) (length writes) 0 (write.wid.seq - 1) (sym at) ∙ last)
          ] refl;
      counts = λ server.
          elim (write.wid.origin.index == server) as (λ t. (write.wid.origin.index == server) ≡ t → length (places_of new server) ≡ slice_index (count_of (writes ++ write ∷ [])) server) [
            | true ↦ λ is.
                let same : write.wid.origin.index ≡ server = grind (arith, nat_tests) in
                let counts : slice_index (count_of (writes ++ write ∷ [])) server ≡ slice_index (count_of writes) write.wid.origin.index + 1 =
                ap (λ counts. slice_index counts server) (count_of-push writes write) ∙ ap (slice_index (counted (count_of writes) write.wid)) (sym same) ∙ counted-own writes write in
                let longer : length (places_of new server) ≡ length (places_of rows write.wid.origin.index) + 1 =
                ap (λ at. length (places_of new at)) (sym same) ∙ ap length own ∙ length-append (places_of rows write.wid.origin.index) (length writes ∷ []) in
                omega (arith, counts, longer, indexed.counts write.wid.origin.index)
            | false ↦ λ isnt.
                let differ : write.wid.origin.index ≢ server = λ same. grind (arith, nat_tests) in
                let kept : slice_index (count_of (writes ++ write ∷ [])) server ≡ slice_index (count_of writes) server =
                ap (λ counts. slice_index counts server) (count_of-push writes write) ∙ counted-other (count_of writes) write.wid server differ in
                ap length (others server (λ same. differ (sym same))) ∙ indexed.counts server ∙ sym kept
          ] refl;
    }
