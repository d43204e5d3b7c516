-- What a listing tells of each Write.
use Rattle.std.proofs.Common.{◌≡◌, ℕ, zero, suc, ◌<◌, ◌≤◌, Bool, true, false, cond, List, [], ◌∷◌, Some, length, take, get_or, All, slice_get, subst, ap, sym, ◌∙◌, refl, arith, inl, inr}
use Rattle.std.proofs.lemmas.Bool.{cases_lt}
use Rattle.std.specs.List.{filter}
use Rattle.std.proofs.lemmas.List.Elements.{All-cons, All-filter, All-get_or, All-head, All-tail, All-weaker}
use Rattle.std.proofs.lemmas.Option.{get_or_from_slice_get, slice_get_within}
use Rattle.bayou_base.specs.declared.stamp.Stamp.{Stamp}
use Rattle.bayou_base.specs.Order.{is_before}
use Rattle.bayou_lang.specs.declared.write.Write.{Write}
use Rattle.bayou_lang.specs.Meaning.{mean}
use Rattle.bayou_lang.specs.Database.{Database, empty}
use Rattle.bayou_lang.specs.Writes.{earlier_than, in_stamp_order, place_by_stamp, HaveDistinctStamps}
use Rattle.bayou_log.specs.Listing.{listed_after, listed_at, listing_of}
use Rattle.bayou_log.specs.Replay.{after_writes, replay}
use Rattle.bayou_lang.specs.Laws.SetOfWrites.{IsStrict, IsStrict-in_stamp_order}
use Rattle.bayou_lang.specs.Laws.StampOrder.{is_before-asym, is_before-cotrans, place_by_stamp-after, place_by_stamp-before, IsInOrder, IsInOrder-in_stamp_order, length-in_stamp_order}

-- a Write that each of the others comes after is placed first
place_by_stamp-first : (write : Write) (writes : List Write) → All (λ next. is_before write.stamp next.stamp ≡ true) writes → place_by_stamp write writes ≡ write ∷ writes
place_by_stamp-first write [] later = refl
place_by_stamp-first write (next ∷ writes) later =
    place_by_stamp-before write next writes (All-head (λ next. is_before write.stamp next.stamp ≡ true) next writes later)

module _ (p : Write → Bool) where
  -- the Writes that a test keeps stand as they do among all
  filter-place_by_stamp : (write : Write) (writes : List Write) → IsInOrder writes
      → filter p (place_by_stamp write writes) ≡ cond (p write) (place_by_stamp write (filter p writes)) (filter p writes)
  filter-place_by_stamp write [] ordered = refl
  filter-place_by_stamp write (next ∷ writes) ordered =
      let kept = filter p writes in
      let all = filter p (next ∷ writes) in
      elim (is_before write.stamp next.stamp)
      as (λ t. is_before write.stamp next.stamp ≡ t → filter p (cond t (write ∷ next ∷ writes) (next ∷ place_by_stamp write writes)) ≡ cond (p write) (place_by_stamp write all) all) [
        | true ↦ λ first.
            let Later : Write → Type 0 = λ later. is_before write.stamp later.stamp ≡ true in
            let later = All-filter p Later (next ∷ writes)
            (All-cons Later next writes first
            (All-weaker (λ later. is_before later.stamp next.stamp ≡ false) Later
            (λ later h. is_before-cotrans write.stamp next.stamp later.stamp first h) writes ordered.0)) in
            ap (λ list. cond (p write) list all) (sym (place_by_stamp-first write all later))
        | false ↦ λ later.
            ap (λ list. cond (p next) (next ∷ list) list) (filter-place_by_stamp write writes ordered.1)
            ∙ elim (p next) as (λ t. cond t (next ∷ cond (p write) (place_by_stamp write kept) kept) (cond (p write) (place_by_stamp write kept) kept)
            ≡ cond (p write) (place_by_stamp write (cond t (next ∷ kept) kept)) (cond t (next ∷ kept) kept)) [
              | true ↦ elim (p write) as (λ t. next ∷ cond t (place_by_stamp write kept) kept ≡ cond t (place_by_stamp write (next ∷ kept)) (next ∷ kept)) [
                | true ↦ sym (place_by_stamp-after write next kept later)
                | false ↦ refl
              ]
              | false ↦ refl
            ]
      ] refl

  in_stamp_order-filter : (writes : List Write) → in_stamp_order (filter p writes) ≡ filter p (in_stamp_order writes)
  in_stamp_order-filter [] = refl
  in_stamp_order-filter (write ∷ writes) =
      elim (p write) as (λ t. in_stamp_order (cond t (write ∷ filter p writes) (filter p writes))
      ≡ cond t (place_by_stamp write (filter p (in_stamp_order writes))) (filter p (in_stamp_order writes))) [
        | true ↦ ap (place_by_stamp write) (in_stamp_order-filter writes)
        | false ↦ in_stamp_order-filter writes
      ]
      ∙ sym (filter-place_by_stamp write (in_stamp_order writes) (IsInOrder-in_stamp_order writes))

  filter-none : (writes : List Write) → All (λ write. p write ≡ false) writes → filter p writes ≡ []
  filter-none [] none = refl
  filter-none (write ∷ writes) none =
      ap (λ t. cond t (write ∷ filter p writes) (filter p writes)) (All-head (λ write. p write ≡ false) write writes none)
      ∙ filter-none writes (All-tail (λ write. p write ≡ false) write writes none)

pub not_before_itself : (stamp : Stamp) → is_before stamp stamp ≡ false
not_before_itself stamp =
    elim (is_before stamp stamp) as (λ t. is_before stamp stamp ≡ t → t ≡ false) [
      | true ↦ λ e. sym e ∙ is_before-asym stamp stamp e
      | false ↦ λ e. refl
    ] refl

-- of Writes in their order those that come before one of them stand before it
earlier_than-take : (ordered : List Write) (place : ℕ) (write : Write) → IsStrict ordered → slice_get ordered place ≡ Some write → earlier_than write.stamp ordered ≡ take place ordered
earlier_than-take [] place write strict here = absurd cc
earlier_than-take (first ∷ rest) zero write strict here =
    let same : first ≡ write = cc in
    ap (λ (one : Write). earlier_than one.stamp (first ∷ rest)) (sym same)
    ∙ filter-none (λ other. is_before other.stamp first.stamp) (first ∷ rest)
    (All-cons (λ other. is_before other.stamp first.stamp ≡ false) first rest (not_before_itself first.stamp)
    (All-weaker (λ next. is_before first.stamp next.stamp ≡ true) (λ next. is_before next.stamp first.stamp ≡ false)
    (λ next later. is_before-asym first.stamp next.stamp later) rest strict.0))
earlier_than-take (first ∷ rest) (suc place) write strict here =
    let Later : Write → Type 0 = λ next. is_before first.stamp next.stamp ≡ true in
    let before : is_before first.stamp write.stamp ≡ true =
    subst Later (get_or_from_slice_get rest place write write here) (All-get_or Later rest place write (slice_get_within rest place write here) strict.0) in
    ap (λ t. cond t (first ∷ earlier_than write.stamp rest) (earlier_than write.stamp rest)) before
    ∙ ap (λ list. first ∷ list) (earlier_than-take rest place write strict.1 here)

listed_after-at : (writes : List Write) (before : Database) (place : ℕ) (write : Write) → slice_get writes place ≡ Some write
    → slice_get (listed_after writes before) place ≡ Some (listed_at (after_writes (take place writes) before) write)
listed_after-at [] before place write here = absurd cc
listed_after-at (first ∷ rest) before zero write here = let same : first ≡ write = cc in ap (λ one. Some (listed_at before one)) same
listed_after-at (first ∷ rest) before (suc place) write here = listed_after-at rest (mean first.program before).1 place write here

-- each Write is listed with the outcome that it has on the replay of those before it
pub listing_of-at : (writes : List Write) (place : ℕ) (write : Write) → HaveDistinctStamps writes → slice_get (in_stamp_order writes) place ≡ Some write
    → slice_get (listing_of writes) place ≡ Some (listed_at (replay (earlier_than write.stamp writes)) write)
listing_of-at writes place write distinct here =
    listed_after-at (in_stamp_order writes) empty place write here
    ∙ ap (λ list. Some (listed_at (after_writes list empty) write))
    (sym (in_stamp_order-filter (λ other. is_before other.stamp write.stamp) writes
    ∙ earlier_than-take (in_stamp_order writes) place write (IsStrict-in_stamp_order writes distinct) here))

length-listed_after : (writes : List Write) (before : Database) → length (listed_after writes before) ≡ length writes
length-listed_after [] before = refl
length-listed_after (write ∷ writes) before = ap suc (length-listed_after writes (mean write.program before).1)

pub length-listing_of : (writes : List Write) → length (listing_of writes) ≡ length writes
length-listing_of writes = length-listed_after (in_stamp_order writes) empty ∙ length-in_stamp_order writes

-- of Writes in their order each comes before those behind it
pub IsStrict-at : (writes : List Write) (i j : ℕ) (d : Write) → IsStrict writes → i < j → j < length writes → is_before (get_or writes i d).stamp (get_or writes j d).stamp ≡ true
IsStrict-at [] i j d strict before within = absurd (omega arith)
IsStrict-at (first ∷ rest) zero zero d strict before within = absurd (omega arith)
IsStrict-at (first ∷ rest) zero (suc j) d strict before within = strict.0 j d (omega arith)
IsStrict-at (first ∷ rest) (suc i) zero d strict before within = absurd (omega arith)
IsStrict-at (first ∷ rest) (suc i) (suc j) d strict before within = IsStrict-at rest i j d strict.1 (omega arith) (omega arith)

-- where one of them comes before the stamp, so do all up to it
pub before_up_to : (writes : List Write) (stamp : Stamp) (middle place : ℕ) (d : Write) → IsStrict writes → middle < length writes → is_before (get_or writes middle d).stamp stamp ≡ true
    → place ≤ middle → is_before (get_or writes place d).stamp stamp ≡ true
before_up_to writes stamp middle place d strict inside here upto =
    elim (cases_lt place middle) [
      | inl lt ↦ is_before-cotrans (get_or writes place d).stamp (get_or writes middle d).stamp stamp (IsStrict-at writes place middle d strict lt inside) (is_before-asym (get_or writes middle d).stamp stamp here)
      | inr le ↦ let same : middle ≡ place = omega arith in subst (λ at. is_before (get_or writes at d).stamp stamp ≡ true) same here
    ]

-- where one of them doesn't, none from it on does
pub not_before_from : (writes : List Write) (stamp : Stamp) (middle place : ℕ) (d : Write) → IsStrict writes → is_before (get_or writes middle d).stamp stamp ≡ false
    → middle ≤ place → place < length writes → is_before (get_or writes place d).stamp stamp ≡ false
not_before_from writes stamp middle place d strict here from inside =
    elim (cases_lt middle place) [
      | inl lt ↦
          elim (is_before (get_or writes place d).stamp stamp) as (λ t. is_before (get_or writes place d).stamp stamp ≡ t → t ≡ false) [
            | true ↦ λ e.
                let earlier : is_before (get_or writes middle d).stamp stamp ≡ true =
                is_before-cotrans (get_or writes middle d).stamp (get_or writes place d).stamp stamp (IsStrict-at writes middle place d strict lt inside) (is_before-asym (get_or writes place d).stamp stamp e) in
                absurd (let both : true ≡ false = sym earlier ∙ here in cc)
            | false ↦ λ e. refl
          ] refl
      | inr le ↦ let same : middle ≡ place = omega arith in subst (λ at. is_before (get_or writes at d).stamp stamp ≡ false) same here
    ]
