-- The index of a list of Writes each of which fits those before it.
use Rattle.std.proofs.Common.{◌≡◌, ◌≢◌, ℕ, zero, suc, max, slice_set, ◌+◌, ◌-◌, ◌<◌, ◌≤◌, ◌⊎◌, inl, inr, true, false, nat_lt, ◌==◌, List, [], ◌∷◌, ◌++◌, length, get_or, take, slice_index, All, Option, Some, ap, sym, ◌∙◌, refl, subst, arith, length-append, map, set, vec_items}
use Rattle.std.specs.List.{slice_get}
use Rattle.std.proofs.lemmas.Bool.Decides.{nat_tests}
use Rattle.std.proofs.lemmas.List.{get_or_append_left, get_or_push, get_or-map, get_or-set_other, get_or-set_same, map-set, take_all, take-append-le}
use Rattle.std.proofs.lemmas.List.Elements.{All-push}
use Rattle.std.proofs.lemmas.Option.{slice_get-get_or, get_or_from_slice_get}
use Rattle.std.proofs.Math.ListN.{length-set}
use Rattle.std.specs.Global.{Vec}
use Rattle.bayou_base.specs.Order.{is_before}
use Rattle.bayou_base.specs.Vector.{raised}
use Rattle.bayou_base.specs.declared.stamp.Stamp.{Stamp}
use Rattle.bayou_base.specs.declared.wid.Wid.{Wid}
use Rattle.bayou_lang.specs.declared.write.Write.{Write}
use Rattle.bayou_lang.specs.Laws.Equality.{server-ext, wid-ext}
use Rattle.bayou_lang.specs.Laws.Fitting.{count_of-push, counted-other, counted-own, fitting_is_prefix_closed}
use Rattle.bayou_lang.specs.Writes.{count_of, counted, AreFitting, Fits}
use Rattle.bayou_judge.specs.Inner.Index.{later_of, place_in, places_of, AreUpTo, IsIndexOf, IsPlaceOf, IsUpTo, Tables}
use Rattle.bayou_judge.proofs.Stamps.{later_of-new, later_of-old, not_before_itself}

-- a name that the counts don't cover is of no Write of the list
pub none_of_wid : (count : ℕ) (writes : List Write) (wid : Wid) → AreFitting count writes → (wid.seq ≤ slice_index (count_of writes) wid.origin.index → ⊥) → All (λ held. held.wid ≢ wid) writes
none_of_wid count writes wid fitting missed k d within same =
    missed (subst (λ (w : Wid). w.seq ≤ slice_index (count_of writes) w.origin.index) same ((fitting_is_prefix_closed count writes fitting).none_beyond k d within))

-- a name that they cover is of the Write at its place
pub place_found : (count : ℕ) (writes : List Write) (tables : Tables) (wid : Wid) → AreFitting count writes → IsIndexOf writes tables → wid.seq ≤ slice_index (count_of writes) wid.origin.index
    → IsPlaceOf writes wid (Some (place_in tables.rows wid.origin.index wid.seq))
place_found count writes tables wid fitting indexed within =
    let found = (fitting_is_prefix_closed count writes fitting).none_missing wid.origin.index wid.seq wid.in_range.0 within in
    let k = found.0 in
    let write = found.1 in
    let is : get_or writes k write ≡ write = found.3 in
    let got : slice_get writes k ≡ Some write = slice_get-get_or writes k write found.2 ∙ ap Some is in
    let named : write.wid ≡ wid = wid-ext write.wid wid (server-ext write.wid.origin wid.origin found.4.0) found.4.1 in
    let at : place_in tables.rows wid.origin.index wid.seq ≡ k = ap (λ (w : Wid). place_in tables.rows w.origin.index w.seq) (sym named) ∙ indexed.places k write got in
    subst (λ place. IsPlaceOf writes wid (Some place)) (sym at) (write, got, named)

-- what stands at a place of a list with one more behind it
pub slice_get-push : {X : Type 0} (xs : List X) (x : X) (k : ℕ) (y : X) → slice_get (xs ++ x ∷ []) k ≡ Some y → ((k < length xs) × (slice_get xs k ≡ Some y)) ⊎ ((k ≡ length xs) × (x ≡ y))
slice_get-push [] x zero y got = inr (refl, cc)
slice_get-push [] x (suc k) y got = absurd (cc)
slice_get-push (first ∷ xs) x zero y got = inl (omega arith, got)
slice_get-push (first ∷ xs) x (suc k) y got =
    elim (slice_get-push xs x k y got) as (λ _. ((suc k < length (first ∷ xs)) × (slice_get xs k ≡ Some y)) ⊎ ((suc k ≡ length (first ∷ xs)) × (x ≡ y))) [
      | inl before ↦ let less = before.0 in inl (omega arith, before.1)
      | inr last ↦ let at = last.0 in inr (omega arith, last.1)
    ]

-- the fitting Write is counted by its number
pub raised-next : (count : ℕ) (writes : List Write) (write : Write) → Fits count writes write → raised (count_of writes) write.wid ≡ count_of (writes ++ write ∷ [])
raised-next count writes write fits =
    let here = slice_index (count_of writes) write.wid.origin.index in
    let greater : max here write.wid.seq ≡ here + 1 = omega (arith, fits.0.next) in
    ap (slice_set (count_of writes) write.wid.origin.index) greater ∙ sym (count_of-push writes write)

-- the last of the old stamps is up to all of the Writes
last_up_to : (writes : List Write) (old : Tables) (last : Option Stamp) → IsIndexOf writes old → last ≡ slice_get old.lasts (length old.lasts - 1) → All (λ write. IsUpTo last write.stamp) writes
last_up_to writes old last indexed is k d within =
    let place = length old.lasts - 1 in
    let some : place < length old.lasts = omega (arith, indexed.as_many_lasts) in
    let d_stamp = (get_or writes k d).stamp in
    let got = slice_get-get_or old.lasts place d_stamp some in
    let up_to = indexed.lasts place (get_or old.lasts place d_stamp) got in
    let all : take (place + 1) writes ≡ writes = take_all (place + 1) writes (omega (arith, indexed.as_many_lasts)) in
    let here = subst (λ list. AreUpTo list (get_or old.lasts place d_stamp)) all up_to k d within in
    subst (λ l. IsUpTo l (get_or writes k d).stamp) (sym (is ∙ got)) here

-- the server's places with one more
pub own_places : (places : List (Vec ℕ)) (at origin : ℕ) (new own : Vec ℕ) (place : ℕ) → at ≡ origin → at < length places
    → vec_items new ≡ vec_items (get_or places at own) ++ place ∷ [] → places_of (map vec_items (set places at new)) origin ≡ places_of (map vec_items places) origin ++ place ∷ []
own_places places at origin new own place same within added =
    ap (places_of (map vec_items (set places at new))) (sym same)
    ∙ get_or-map vec_items (set places at new) at new [] (omega (arith, within, length-set places at new))
    ∙ ap vec_items (get_or-set_same places at new new within) ∙ added
    ∙ ap (λ items. items ++ place ∷ []) (sym (get_or-map vec_items places at own [] within) ∙ ap (places_of (map vec_items places)) same)

-- those of the others
pub other_places : (places : List (Vec ℕ)) (at server : ℕ) (new : Vec ℕ) → server ≢ at
    → places_of (map vec_items (set places at new)) server ≡ places_of (map vec_items places) server
other_places places at server new other =
    ap (λ rows. places_of rows server) (map-set vec_items places at new) ∙ get_or-set_other (map vec_items places) at server (vec_items new) [] other

-- a place stays where it is as one is added, whoever's it is
place_kept : (rows new : List (List ℕ)) (origin server seq place : ℕ) → 0 < seq → seq ≤ length (places_of rows server) → places_of new origin ≡ places_of rows origin ++ place ∷ []
    → ((server : ℕ) → server ≢ origin → places_of new server ≡ places_of rows server) → place_in new server seq ≡ place_in rows server seq
place_kept rows new origin server seq place some within own others =
    elim (server == origin) as (λ t. (server == origin) ≡ t → place_in new server seq ≡ place_in rows server seq) [
      | true ↦ λ is.
          let same : server ≡ origin = grind (arith, nat_tests) in
          let here = ap (places_of new) same ∙ own ∙ ap (λ at. places_of rows at ++ place ∷ []) (sym same) in
          ap (λ list. slice_index list (seq - 1)) here ∙ get_or_append_left (places_of rows server) (place ∷ []) 0 (seq - 1) (omega (arith, some, within))
      | false ↦ λ isnt.
          let other : server ≢ origin = λ same. grind (arith, nat_tests) in
          ap (λ list. slice_index list (seq - 1)) (others server other)
    ] refl

-- the index of a list with one more fitting Write behind it
pub IsIndexOf-push : (count : ℕ) (writes : List Write) (write : Write) (old new : Tables) (last : Option Stamp) → AreFitting count writes → Fits count writes write → IsIndexOf writes old
    → new.counts ≡ old.counts ++ raised (count_of writes) write.wid ∷ []
    → new.lasts ≡ old.lasts ++ later_of last write.stamp ∷ []
    → last ≡ slice_get old.lasts (length old.lasts - 1)
    → places_of new.rows write.wid.origin.index ≡ places_of old.rows write.wid.origin.index ++ length writes ∷ []
    → ((server : ℕ) → server ≢ write.wid.origin.index → places_of new.rows server ≡ places_of old.rows server) → IsIndexOf (writes ++ write ∷ []) new
IsIndexOf-push count writes write old new last fitting fits indexed counts lasts last_is own others =
    let all = writes ++ write ∷ [] in
    let size : length all ≡ length writes + 1 = omega (arith, length-append writes (write ∷ [])) in
    let next : write.wid.seq ≡ length (places_of old.rows write.wid.origin.index) + 1 = omega (arith, fits.0.next, indexed.reach write.wid.origin.index) in
    let up_to : All (λ other. IsUpTo last other.stamp) writes = last_up_to writes old last indexed last_is in
    record {
      as_many = omega (arith, ap length counts, length-append old.counts (raised (count_of writes) write.wid ∷ []), indexed.as_many, size);
      counts = λ at within.
          elim (nat_lt at (length writes)) as (λ t. nat_lt at (length writes) ≡ t → get_or new.counts at [] ≡ count_of (take (at + 1) all)) [
            | true ↦ λ is.
                let before : at < length writes = grind (arith, nat_tests) in
                ap (λ list. get_or list at []) counts
                ∙ get_or_append_left old.counts (raised (count_of writes) write.wid ∷ []) [] at (omega (arith, indexed.as_many))
                ∙ indexed.counts at before ∙ ap count_of (sym (take-append-le (at + 1) writes (write ∷ []) (omega arith)))
            | false ↦ λ isnt.
                let end : length old.counts ≡ at = grind (arith, nat_tests, indexed.as_many, size) in
                ap (λ list. get_or list at []) counts ∙ get_or_push old.counts (raised (count_of writes) write.wid) [] at end
                ∙ raised-next count writes write fits ∙ ap count_of (sym (take_all (at + 1) all (omega (arith, indexed.as_many))))
          ] refl;
      as_many_lasts = omega (arith, ap length lasts, length-append old.lasts (later_of last write.stamp ∷ []), indexed.as_many_lasts, size);
      lasts = λ at final got.
          elim (slice_get-push old.lasts (later_of last write.stamp) at final (ap (λ list. slice_get list at) (sym lasts) ∙ got)) as (λ _. AreUpTo (take (at + 1) all) final) [
            | inl before ↦
                let less : at < length old.lasts = before.0 in
                subst (λ list. AreUpTo list final) (sym (take-append-le (at + 1) writes (write ∷ []) (omega (arith, indexed.as_many_lasts)))) (indexed.lasts at final before.1)
            | inr end ↦
                let place : at ≡ length old.lasts = end.0 in
                let whole : take (at + 1) all ≡ all = take_all (at + 1) all (omega (arith, indexed.as_many_lasts)) in
                let reached : AreUpTo all (later_of last write.stamp) =
                All-push (λ other. is_before (later_of last write.stamp) other.stamp ≡ false) writes write
                (λ k d within. later_of-old last write.stamp (get_or writes k d).stamp (up_to k d within))
                (later_of-new last write.stamp write.stamp (not_before_itself write.stamp)) in
                subst (λ list. AreUpTo list final) (sym whole) (subst (AreUpTo all) end.1 reached)
          ];
      places = λ place held got.
          elim (slice_get-push writes write place held got) as (λ _. place_in new.rows held.wid.origin.index held.wid.seq ≡ place) [
            | inl before ↦
                let is : get_or writes place write ≡ held = get_or_from_slice_get writes place held write before.1 in
                let beyond = subst (λ (w : Write). w.wid.seq ≤ slice_index (count_of writes) w.wid.origin.index) is ((fitting_is_prefix_closed count writes fitting).none_beyond place write before.0) in
                place_kept old.rows new.rows write.wid.origin.index held.wid.origin.index held.wid.seq (length writes) held.wid.in_range.0
                (omega (arith, beyond, indexed.reach held.wid.origin.index)) own others
                ∙ indexed.places place held before.1
            | inr end ↦
                let at : length (places_of old.rows write.wid.origin.index) ≡ write.wid.seq - 1 = omega (arith, next) in
                let here : place_in new.rows write.wid.origin.index write.wid.seq ≡ length writes =
                ap (λ list. slice_index list (write.wid.seq - 1)) own ∙ get_or_push (places_of old.rows write.wid.origin.index) (length writes) 0 (write.wid.seq - 1) at in
                subst (λ (w : Write). place_in new.rows w.wid.origin.index w.wid.seq ≡ place) end.1 (here ∙ sym end.0)
          ];
      reach = λ server.
          elim (write.wid.origin.index == server) as (λ t. (write.wid.origin.index == server) ≡ t → length (places_of new.rows server) ≡ slice_index (count_of all) server) [
            | true ↦ λ is.
                let same : write.wid.origin.index ≡ server = grind (arith, nat_tests) in
                let counted_own : slice_index (count_of all) server ≡ slice_index (count_of writes) write.wid.origin.index + 1 =
                ap (λ list. slice_index list server) (count_of-push writes write) ∙ ap (slice_index (counted (count_of writes) write.wid)) (sym same) ∙ counted-own writes write in
                let longer : length (places_of new.rows server) ≡ length (places_of old.rows write.wid.origin.index) + 1 =
                ap (λ at. length (places_of new.rows at)) (sym same) ∙ ap length own ∙ length-append (places_of old.rows write.wid.origin.index) (length writes ∷ []) in
                omega (arith, counted_own, longer, indexed.reach write.wid.origin.index)
            | false ↦ λ isnt.
                let differ : write.wid.origin.index ≢ server = λ same. grind (arith, nat_tests) in
                let kept : slice_index (count_of all) server ≡ slice_index (count_of writes) server =
                ap (λ list. slice_index list server) (count_of-push writes write) ∙ counted-other (count_of writes) write.wid server differ in
                ap length (others server (λ same. differ (sym same))) ∙ indexed.reach server ∙ sym kept
          ] refl;
    }
