-- Rows that follow others.
use Rattle.std.proofs.Common.{arith, ◌≡◌, ◌∙◌, ◌+◌, ◌-◌, ◌<◌, ◌++◌, ◌∷◌, ◌&&◌, [], ℕ, suc, List, Bool, true, false, Option, None, Some, add-one, ap, drop, get_or, length, nat_eq, refl, subst, sym}
use Rattle.std.specs.List.{slice_get, starts_with}
use Rattle.std.specs.Option.{option_map}
use Rattle.std.proofs.Math.Seq.{drop-cons}
use Rattle.bayou_connect.specs.Listing.{Row, do_follow, is_behind, last_key}

and_first : (a b : Bool) → (a && b) ≡ true → a ≡ true
and_first true b both = refl
and_first false b both = both

and_second : (a b : Bool) → (a && b) ≡ true → b ≡ true
and_second true b both = both
and_second false b both = absurd (cc)

-- the rows from this place on
pub follow_at : (prefix : List ℕ) (last : Option (List ℕ)) (rows : List Row) (at : ℕ) (d : Row) → at < length rows
    → do_follow prefix last (drop at rows) ≡ (is_behind last (get_or rows at d).0 && starts_with nat_eq (get_or rows at d).0 prefix && do_follow prefix (Some (get_or rows at d).0) (drop (at + 1) rows))
follow_at prefix last rows at d within =
    let split : drop at rows ≡ get_or rows at d ∷ drop (at + 1) rows = drop-cons rows at d within ∙ ap (λ (n : ℕ). get_or rows at d ∷ drop n rows) (sym (add-one at)) in
    ap (do_follow prefix last) split

-- the last key behind this one
or_last : Option (List ℕ) → List Row → Option (List ℕ)
or_last last [] = last
or_last last (row ∷ rows) = or_last (Some row.0) rows

last_is : (last : Option (List ℕ)) (row : Row) (rows : List Row) → or_last last (row ∷ rows) ≡ last_key (row ∷ rows)
unfolding or_last
last_is last row [] = refl
last_is last row (next ∷ rows) =
    let at : length (row ∷ next ∷ rows) - 1 ≡ suc (length (next ∷ rows) - 1) = omega arith in
    last_is (Some row.0) next rows ∙ ap (λ (n : ℕ). option_map (λ (one : Row). one.0) (slice_get (row ∷ next ∷ rows) n)) (sym at)

or_last_is : (rows : List Row) → or_last None rows ≡ last_key rows
unfolding or_last
or_last_is [] = refl
or_last_is (row ∷ rows) = last_is None row rows

follow_both : (prefix : List ℕ) (last : Option (List ℕ)) (rows more : List Row) → do_follow prefix last rows ≡ true → do_follow prefix (or_last last rows) more ≡ true → do_follow prefix last (rows ++ more) ≡ true
unfolding or_last
follow_both prefix last [] more first second = second
follow_both prefix last (row ∷ rows) more first second =
    let here = is_behind last row.0 && starts_with nat_eq row.0 prefix in
    let behind = follow_both prefix (Some row.0) rows more (and_second here (do_follow prefix (Some row.0) rows) first) second in
    ap (λ b. here && b) behind ∙ ap (λ b. b && true) (and_first here (do_follow prefix (Some row.0) rows) first)

-- the rows of one page more
pub listed_more : (prefix : List ℕ) (rows more : List Row) → do_follow prefix None rows ≡ true → do_follow prefix (last_key rows) more ≡ true → do_follow prefix None (rows ++ more) ≡ true
listed_more prefix rows more first second =
    follow_both prefix None rows more first (subst (λ (last : Option (List ℕ)). do_follow prefix last more ≡ true) (sym (or_last_is rows)) second)

-- ---- one row after another

pub follow_stops : (prefix : List ℕ) (last : Option (List ℕ)) (rows : List Row) (at : ℕ) (d : Row) (whole : Bool) → at < length rows
    → (is_behind last (get_or rows at d).0 && starts_with nat_eq (get_or rows at d).0 prefix) ≡ false → do_follow prefix last (drop at rows) ≡ whole → false ≡ whole
follow_stops prefix last rows at d whole within isnt is =
    sym (follow_at prefix last rows at d within ∙ ap (λ b. b && do_follow prefix (Some (get_or rows at d).0) (drop (at + 1) rows)) isnt) ∙ is

pub follow_goes_on : (prefix : List ℕ) (last : Option (List ℕ)) (rows : List Row) (at : ℕ) (d : Row) (whole : Bool) → at < length rows
    → (is_behind last (get_or rows at d).0 && starts_with nat_eq (get_or rows at d).0 prefix) ≡ true → do_follow prefix last (drop at rows) ≡ whole
    → do_follow prefix (Some (get_or rows at d).0) (drop (at + 1) rows) ≡ whole
follow_goes_on prefix last rows at d whole within is_next is =
    sym (follow_at prefix last rows at d within ∙ ap (λ b. b && do_follow prefix (Some (get_or rows at d).0) (drop (at + 1) rows)) is_next) ∙ is
