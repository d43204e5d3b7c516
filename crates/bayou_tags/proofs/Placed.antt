-- What a map of places tells of tags, and what a tag that comes, or is forgotten, makes of it.
use Rattle.std.proofs.Common.{◌≡◌, ℕ, ◌+◌, ◌<◌, ◌≤◌, ◌⊎◌, inl, inr, Bool, true, false, cond, nat_lt, List, [], ◌∷◌, ◌++◌, length, take, get_or, slice_get, Option, Some, None, IfSome, Contains, ap, sym, ◌∙◌, refl, subst, arith, length-append}
use Rattle.std.specs.BTreeMap.{is_at}
use Rattle.std.specs.Ordering.{nat_cmp, ordering_then}
use Rattle.std.proofs.lemmas.Bool.Decides.{nat_tests}
use Rattle.std.proofs.lemmas.List.{get_or_append_left, get_or_default, get_or_past, get_or_push, take-append-le, take_all}
use Rattle.std.proofs.lemmas.Cmp.{nat_cmp_total, on_total, then_total, tied_itself}
use Rattle.std.proofs.lemmas.Map.Lookups.{exact_pairs, exact_unsigned}
use Rattle.std.proofs.lemmas.Map.Views.{tells_apart}
use Rattle.std.proofs.lemmas.Option.{none-some, same_Some, slice_get-get_or}
use Rattle.std.specs.Cmp.{IsTotalOrder}
use Rattle.bayou_base.specs.declared.tag.Tag.{Tag}
use Rattle.bayou_lang.specs.Laws.Equality.{session-ext, tag-ext}
use Rattle.bayou_tags.specs.Tags.{AreDistinct}
use Rattle.bayou_tags.specs.Inner.Places.{tag_cmp, place_in, ArePlaced}

-- the test by which a map looks a tag up
abbrev is_tag : Tag → Tag → Bool
is_tag tag other = is_at (tag_cmp tag) other

tags_total : IsTotalOrder tag_cmp
tags_total = then_total (on_total (λ tag. tag.session.index) nat_cmp_total) (then_total (on_total (λ tag. tag.run) nat_cmp_total) (on_total (λ tag. tag.number) nat_cmp_total))

-- what passes the test is the tag itself, and it does pass
one_tag : (a b : Tag) → is_tag a b ≡ true → a ≡ b
one_tag a b same =
    let parts : (a.session.index, (a.run, a.number)) ≡ (b.session.index, (b.run, b.number)) =
    tells_apart (exact_pairs nat_cmp (λ p q. ordering_then (nat_cmp p.0 q.0) (nat_cmp p.1 q.1)) exact_unsigned (exact_pairs nat_cmp nat_cmp exact_unsigned exact_unsigned))
    (a.session.index, (a.run, a.number)) (b.session.index, (b.run, b.number)) same in
    tag-ext a b (session-ext a.session b.session (ap (λ p. p.0) parts)) (ap (λ p. p.1.0) parts) (ap (λ p. p.1.1) parts)

itself : (tag : Tag) → is_tag tag tag ≡ true
itself tag = ap (λ o. is_at (λ other. o) tag) (tied_itself tags_total tag)

same_tag : (a b : Tag) → a ≡ b → is_tag a b ≡ true
same_tag a b one = subst (λ other. is_tag a other ≡ true) one (itself a)

-- a place with a tag is inside the list
inside : (tags : List (Option Tag)) (at : ℕ) (tag : Tag) → get_or tags at None ≡ Some tag → at < length tags
inside tags at tag is =
    elim (nat_lt at (length tags)) as (λ t. nat_lt at (length tags) ≡ t → at < length tags) [
      | true ↦ λ within. grind (arith, nat_tests)
      | false ↦ λ beyond. absurd (none-some tag (sym (get_or_past tags at None (grind (arith, nat_tests))) ∙ is))
    ] refl

-- a place with a tag, where one entry is added, is one that it had, or is the last
pushed : (tags : List (Option Tag)) (entry : Option Tag) (at : ℕ) (tag : Tag) → get_or (tags ++ entry ∷ []) at None ≡ Some tag
    → (get_or tags at None ≡ Some tag) ⊎ ((at ≡ length tags) × (entry ≡ Some tag))
pushed tags entry at tag is =
    let within : at < length (tags ++ entry ∷ []) = inside (tags ++ entry ∷ []) at tag is in
    elim (nat_lt at (length tags)) as (λ t. nat_lt at (length tags) ≡ t → (get_or tags at None ≡ Some tag) ⊎ ((at ≡ length tags) × (entry ≡ Some tag))) [
      | true ↦ λ before. inl (sym (get_or_append_left tags (entry ∷ []) None at (grind (arith, nat_tests))) ∙ is)
      | false ↦ λ behind.
          let last : length tags ≡ at = grind (arith, nat_tests, length-append tags (entry ∷ [])) in
          inr (sym last, sym (get_or_push tags entry None at last) ∙ is)
    ] refl

-- a place before it keeps its tag
kept : (tags : List (Option Tag)) (entry : Option Tag) (at : ℕ) (tag : Tag) → get_or tags at None ≡ Some tag → get_or (tags ++ entry ∷ []) at None ≡ Some tag
kept tags entry at tag is = get_or_append_left tags (entry ∷ []) None at (inside tags at tag is) ∙ is

-- an entry without a tag changes nothing
pub ArePlaced-push_none : (places : List (Tag × ℕ)) (tags : List (Option Tag)) → ArePlaced places tags → ArePlaced places (tags ++ None ∷ [])
ArePlaced-push_none places tags are = record {
  placed = λ tag at is. elim (pushed tags None at tag is) as (λ _. place_in places tag ≡ Some at) [
    | inl before ↦ are.placed tag at before
    | inr last ↦ absurd (none-some tag last.1)
  ];
  there = λ tag at is. kept tags None at tag (are.there tag at is);
}

-- nor does it where it is taken away again
pub ArePlaced-pop_none : (places : List (Tag × ℕ)) (tags : List (Option Tag)) → ArePlaced places (tags ++ None ∷ []) → ArePlaced places tags
ArePlaced-pop_none places tags are = record {
  placed = λ tag at is. are.placed tag at (kept tags None at tag is);
  there = λ tag at is. elim (pushed tags None at tag (are.there tag at is)) as (λ _. get_or tags at None ≡ Some tag) [
    | inl before ↦ before
    | inr last ↦ absurd (none-some tag last.1)
  ];
}

-- a tag at a place is among the tags
Contains-at : (tags : List (Option Tag)) (at : ℕ) (tag : Tag) → get_or tags at None ≡ Some tag → Contains tags (Some tag)
Contains-at tags at tag is =
    let within = inside tags at tag is in
    (at, within, get_or_default tags at (Some tag) None within ∙ is)

-- a tag comes that was at no place
pub ArePlaced-come : (old new : List (Tag × ℕ)) (tags : List (Option Tag)) (tag : Tag) → ArePlaced old (tags ++ None ∷ []) → (Contains tags (Some tag) → ⊥)
    → ((other : Tag) → place_in new other ≡ cond (is_at (tag_cmp tag) other) (Some (length tags)) (place_in old other)) → ArePlaced new (tags ++ Some tag ∷ [])
ArePlaced-come old new tags tag were fresh sets =
    let before = ArePlaced-pop_none old tags were in
    record {
      placed = λ other at is.
          elim (pushed tags (Some tag) at other is) as (λ _. place_in new other ≡ Some at) [
            | inl had ↦
                elim (is_tag tag other) as (λ t. is_tag tag other ≡ t → place_in new other ≡ Some at) [
                  | true ↦ λ same. absurd (fresh (Contains-at tags at tag (had ∙ ap Some (sym (one_tag tag other same)))))
                  | false ↦ λ differ. sets other ∙ ap (λ t. cond t (Some (length tags)) (place_in old other)) differ ∙ before.placed other at had
                ] refl
            | inr last ↦
                sets other ∙ ap (λ t. cond t (Some (length tags)) (place_in old other)) (same_tag tag other (same_Some tag other last.1)) ∙ ap Some (sym last.0)
          ];
      there = λ other at is.
          elim (is_tag tag other) as (λ t. is_tag tag other ≡ t → get_or (tags ++ Some tag ∷ []) at None ≡ Some other) [
            | true ↦ λ same.
                let last : length tags ≡ at = same_Some (length tags) at (sym (sets other ∙ ap (λ t. cond t (Some (length tags)) (place_in old other)) same) ∙ is) in
                get_or_push tags (Some tag) None at last ∙ ap Some (one_tag tag other same)
            | false ↦ λ differ.
                kept tags (Some tag) at other (before.there other at (sym (sets other ∙ ap (λ t. cond t (Some (length tags)) (place_in old other)) differ) ∙ is))
          ] refl;
    }

-- the tag that came is forgotten
pub ArePlaced-forget : (old new : List (Tag × ℕ)) (tags : List (Option Tag)) (tag : Tag) → ArePlaced old (tags ++ Some tag ∷ [])
    → ((other : Tag) → place_in new other ≡ cond (is_at (tag_cmp tag) other) None (place_in old other)) → ArePlaced new (tags ++ None ∷ [])
ArePlaced-forget old new tags tag were takes = ArePlaced-push_none new tags (record {
  placed = λ other at is.
      elim (is_tag tag other) as (λ t. is_tag tag other ≡ t → place_in new other ≡ Some at) [
        | true ↦ λ same.
            let had : place_in old tag ≡ Some at = were.placed tag at (kept tags (Some tag) at tag (is ∙ ap Some (sym (one_tag tag other same)))) in
            let came : place_in old tag ≡ Some (length tags) = were.placed tag (length tags) (get_or_push tags (Some tag) None (length tags) refl) in
            absurd (omega (arith, inside tags at other is, same_Some at (length tags) (sym had ∙ came)))
        | false ↦ λ differ.
            takes other ∙ ap (λ t. cond t None (place_in old other)) differ ∙ were.placed other at (kept tags (Some tag) at other is)
      ] refl;
  there = λ other at is.
      elim (is_tag tag other) as (λ t. is_tag tag other ≡ t → get_or tags at None ≡ Some other) [
        | true ↦ λ same. absurd (none-some at (sym (takes other ∙ ap (λ t. cond t None (place_in old other)) same) ∙ is))
        | false ↦ λ differ.
            let had = were.there other at (sym (takes other ∙ ap (λ t. cond t None (place_in old other)) differ) ∙ is) in
            elim (pushed tags (Some tag) at other had) as (λ _. get_or tags at None ≡ Some other) [
              | inl before ↦ before
              | inr last ↦
                  let both : true ≡ false = sym (same_tag tag other (same_Some tag other last.1)) ∙ differ in
                  cc
            ]
      ] refl;
})

-- the tag that comes is at no place
fresh-coming : (places : List (Tag × ℕ)) (tags : List (Option Tag)) (tag : Tag) → ArePlaced places (tags ++ Some tag ∷ []) → Contains tags (Some tag) → ⊥
fresh-coming places tags tag are (k, within, is) =
    let here : get_or tags k None ≡ Some tag = get_or_default tags k None (Some tag) within ∙ is in
    let had : place_in places tag ≡ Some k = are.placed tag k (kept tags (Some tag) k tag here) in
    let came : place_in places tag ≡ Some (length tags) = are.placed tag (length tags) (get_or_push tags (Some tag) None (length tags) refl) in
    omega (arith, within, same_Some k (length tags) (sym had ∙ came))

-- a tag has one place
pub AreDistinct-placed : (places : List (Tag × ℕ)) (tags : List (Option Tag)) (coming : Option Tag) → ArePlaced places (tags ++ coming ∷ []) → AreDistinct tags
AreDistinct-placed places tags coming are = λ i j d before within tag first second.
    let at : (k : ℕ) → k < length tags → get_or tags k d ≡ Some tag → place_in places tag ≡ Some k =
    λ k inside is. are.placed tag k (kept tags coming k tag (get_or_default tags k None d inside ∙ is)) in
    omega (arith, before, same_Some i j (sym (at i (omega (arith, before, within)) first) ∙ at j within second))

-- the one that comes, if there is one, is at no place
pub coming_is_new : (places : List (Tag × ℕ)) (tags : List (Option Tag)) (coming : Option Tag) → ArePlaced places (tags ++ coming ∷ []) → IfSome coming (λ tag. Contains tags (Some tag) → ⊥)
coming_is_new places tags None are = tt
coming_is_new places tags (Some tag) are = fresh-coming places tags tag are

-- a tag that is held has a place in the map, before that of the one that comes
held_place : (places : List (Tag × ℕ)) (tags : List (Option Tag)) (coming : Option Tag) (tag : Tag) → ArePlaced places (tags ++ coming ∷ []) → Contains tags (Some tag)
    → (at : ℕ) × (at < length tags) × (place_in places tag ≡ Some at)
held_place places tags coming tag are (k, within, is) =
    (k, within, are.placed tag k (kept tags coming k tag (get_or_default tags k None (Some tag) within ∙ is)))

-- a tag without a place in the map is at none
pub no_place : (places : List (Tag × ℕ)) (tags : List (Option Tag)) (coming : Option Tag) (tag : Tag) → ArePlaced places (tags ++ coming ∷ [])
    → place_in places tag ≡ None → Contains tags (Some tag) → ⊥
no_place places tags coming tag are none held =
    let found = held_place places tags coming tag are held in
    none-some found.0 (sym none ∙ found.2)

-- nor is one whose place in the map is behind the list
pub place_behind : (places : List (Tag × ℕ)) (tags : List (Option Tag)) (coming : Option Tag) (tag : Tag) (at : ℕ) → ArePlaced places (tags ++ coming ∷ [])
    → place_in places tag ≡ Some at → length tags ≤ at → Contains tags (Some tag) → ⊥
place_behind places tags coming tag at are is beyond held =
    let found = held_place places tags coming tag are held in
    omega (arith, beyond, found.1, same_Some found.0 at (sym found.2 ∙ is))

-- one whose place is in the list is there
pub place_before : (places : List (Tag × ℕ)) (tags : List (Option Tag)) (coming : Option Tag) (tag : Tag) (at : ℕ) → ArePlaced places (tags ++ coming ∷ [])
    → place_in places tag ≡ Some at → at < length tags → slice_get tags at ≡ Some (Some tag)
place_before places tags coming tag at are is within =
    slice_get-get_or tags at None within
    ∙ ap Some (sym (get_or_append_left tags (coming ∷ []) None at within) ∙ are.there tag at is)

-- what is left where the last entry, which has no tag, was taken off
pub popped : (tags new front : List (Option Tag)) (n : ℕ) → tags ≡ front ++ None ∷ [] → new ≡ take n tags → n + 1 ≡ length tags → new ≡ front
popped tags new front n is taken size =
    taken ∙ ap (take n) is ∙ take-append-le n front (None ∷ []) (omega (arith, size, ap length is, length-append front (None ∷ [])))
    ∙ take_all n front (omega (arith, size, ap length is, length-append front (None ∷ [])))
