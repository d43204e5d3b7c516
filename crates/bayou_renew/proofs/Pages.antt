-- The rows behind the last of those that were told are those that weren't told yet.
use Rattle.std.proofs.Common.{◌≡◌, ℕ, zero, suc, ◌+◌, ◌-◌, ◌<◌, ◌≤◌, Bool, true, false, cond, not, T, List, [], ◌∷◌, ◌++◌, get_or, length, length-drop, slice_get, filter, take, drop, inl, inr, Option, None, Some, refl, sym, ap, subst, ◌∙◌, arith, append_assoc, length-append}
use Rattle.std.specs.Prelude.{◌&&◌, ◌↔◌, IfNone, IfSome, IsTrue}
use Rattle.std.proofs.lemmas.Bool.{cases_lt}
use Rattle.std.proofs.lemmas.List.{append-nil, length-take-le, take_all, take_more}
use Rattle.std.proofs.lemmas.Option.{get_or_from_slice_get, slice_get_within}
use Rattle.std.proofs.lemmas.List.Elements.{filter-append}
use Rattle.std.specs.FinMap as finite
use Rattle.std.specs.FinMap.Entries.{below_all, is_sorted}
use Rattle.std.specs.Ordering.{is_lt, nat_cmp, ordering_reverse}
use Rattle.std.specs.declared.cmp.Ordering.{Ordering}
use Rattle.std.specs.declared.cmp.Ordering.TheVariants.{Less, Equal, Greater}
use Rattle.std.specs.Cmp.{tied_itself}
use Rattle.std.specs.Cmp.Lexicographic.{slice_cmp, nat_list_cmp_total}
use Rattle.bayou_lang.specs.Database.{Database, begins_with}
use Rattle.bayou_log.specs.Rows.{Row, is_after, rows_after}
use Rattle.bayou_renew.specs.Inner.{IsLastKey}
use Rattle.bayou_renew.specs.Renewal.{is_left_out, kept_of, kept_rows}

abbrev order : List ℕ → List ℕ → Ordering
order = slice_cmp nat_cmp

first : (a b : Bool) → T (a && b) → T a
first true b p = tt
first false b p = p

second : (a b : Bool) → T (a && b) → T b
second true b p = p
second false b p = absurd p

-- those behind a key, if there is one
behind : Option (List ℕ) → List Row → List Row
behind after rows = filter (λ row. is_after after row.0) rows

every_begins : (key : List ℕ) → begins_with [] key ≡ true
every_begins [] = refl
every_begins (byte ∷ key) = refl

-- each key begins with nothing
rows_behind : (after : Option (List ℕ)) (rows : List Row) → filter (λ (row : Row). begins_with [] row.0 && is_after after row.0) rows ≡ behind after rows
unfolding behind
rows_behind after [] = refl
rows_behind after (row ∷ rows) =
    ap (λ b. cond (b && is_after after row.0) (row ∷ filter (λ (r : Row). begins_with [] r.0 && is_after after r.0) rows) (filter (λ (r : Row). begins_with [] r.0 && is_after after r.0) rows)) (every_begins row.0)
    ∙ ap (λ left. cond (is_after after row.0) (row ∷ left) left) (rows_behind after rows)

all_behind : (key : List ℕ) (rows : List Row) → T (below_all order key rows) → behind (Some key) rows ≡ rows
unfolding behind
all_behind key [] below = refl
all_behind key (row ∷ rows) below =
    ap (λ b. cond b (row ∷ behind (Some key) rows) (behind (Some key) rows)) (is (is_lt (order key row.0)) (first _ _ below)) ∙ ap (λ left. row ∷ left) (all_behind key rows (second _ _ below))
  where
    is : (b : Bool) → T b → b ≡ true
    is true t = refl
    is false t = absurd t

below_one : (key : List ℕ) (front : List Row) (row : Row) (back : List Row) → T (below_all order key (front ++ row ∷ back)) → T (is_lt (order key row.0))
below_one key [] row back below = first _ _ below
below_one key (other ∷ front) row back below = below_one key front row back (second _ _ below)

not_back : (one other : List ℕ) → T (is_lt (order one other)) → is_lt (order other one) ≡ false
not_back one other before = ap is_lt (nat_list_cmp_total.antisymm other one) ∙ turned (order one other) before
  where
    turned : (r : Ordering) → T (is_lt r) → is_lt (ordering_reverse r) ≡ false
    turned Less t = refl
    turned Equal t = absurd t
    turned Greater t = absurd t

-- those behind the key of a row that is among them are those that stand behind it
behind_row : (front : List Row) (row : Row) (back : List Row) → T (is_sorted order (front ++ row ∷ back)) → behind (Some row.0) (front ++ row ∷ back) ≡ back
unfolding behind
behind_row [] row back sorted =
    ap (λ r. cond (is_lt r) (row ∷ behind (Some row.0) back) (behind (Some row.0) back)) (tied_itself nat_list_cmp_total row.0) ∙ all_behind row.0 back (first _ _ sorted)
behind_row (other ∷ front) row back sorted =
    ap (λ b. cond b (other ∷ behind (Some row.0) (front ++ row ∷ back)) (behind (Some row.0) (front ++ row ∷ back))) (not_back other.0 row.0 (below_one other.0 front row back (first _ _ sorted)))
    ∙ behind_row front row back (second _ _ sorted)

pub take-drop : {A : Type 0} (n : ℕ) (list : List A) → take n list ++ drop n list ≡ list
take-drop zero list = refl
take-drop (suc n) [] = refl
take-drop (suc n) (one ∷ list) = ap (λ rest. one ∷ rest) (take-drop n list)

every_behind : (rows : List Row) → behind None rows ≡ rows
unfolding behind
every_behind [] = refl
every_behind (row ∷ rows) = ap (λ left. row ∷ left) (every_behind rows)

-- at first all are left
pub all_left : (database : Database) → rows_after [] None database ≡ finite.entries database
all_left database = rows_behind None (finite.entries database) ∙ every_behind (finite.entries database)

-- what was told so far, and what is left
pub record IsToldUpTo (database : Database) (without : List (List ℕ)) (after : Option (List ℕ)) (kept : List Row) : Type 0 where
  pub front : List Row
  pub split : finite.entries database ≡ front ++ rows_after [] after database
  pub kept_so_far : kept ≡ kept_of without front

pub told_none : (database : Database) (without : List (List ℕ)) (kept : List Row) → kept ≡ [] → IsToldUpTo database without None kept
told_none database without kept none = record { front = []; split = sym (all_left database); kept_so_far = none }

-- one page more, of those that are left
pub record IsPage (database : Database) (after : Option (List ℕ)) (most : ℕ) (page : List Row) : Type 0 where
  pub rows : page ≡ take most (rows_after [] after database)
  pub more : most < length (rows_after [] after database)

-- with a page that has all that are left
pub told_all : (database : Database) (without : List (List ℕ)) (after : Option (List ℕ)) (most : ℕ) (kept page now : List Row) → IsToldUpTo database without after kept
    → page ≡ take most (rows_after [] after database) → length (rows_after [] after database) ≤ most → now ≡ kept ++ kept_of without page → now ≡ kept_rows without database
told_all database without after most kept page now told rows within is =
    let left = rows_after [] after database in
    is ∙ ap (λ one. one ++ kept_of without page) told.kept_so_far ∙ sym (filter-append (λ (row : Row). not (is_left_out without row.0)) told.front page)
    ∙ ap (kept_of without) (ap (λ one. told.front ++ one) (rows ∙ take_all most left within) ∙ sym told.split)

-- the key of the last of a page that has not all that are left
last_left : (database : Database) (without : List (List ℕ)) (after : Option (List ℕ)) (most : ℕ) (front page : List Row) (key : List ℕ) → finite.entries database ≡ front ++ rows_after [] after database
    → page ≡ take most (rows_after [] after database) → IsLastKey page key → rows_after [] (Some key) database ≡ drop most (rows_after [] after database)
last_left database without after most front page key split rows last =
    let left = rows_after [] after database in
    let back = drop most left in
    let all : finite.entries database ≡ (front ++ last.front) ++ last.row ∷ back =
    split ∙ ap (λ one. front ++ one) (sym (take-drop most left) ∙ ap (λ one. one ++ back) (sym rows ∙ last.split) ∙ append_assoc last.front (last.row ∷ []) back)
    ∙ sym (append_assoc front last.front (last.row ∷ back)) in
    rows_behind (Some key) (finite.entries database)
    ∙ ap (λ (found : List Row). behind (Some key) found) all ∙ ap (λ k. behind (Some k) ((front ++ last.front) ++ last.row ∷ back)) last.is
    ∙ behind_row (front ++ last.front) last.row back (subst (λ found. T (is_sorted order found)) all (finite.entries_sorted database))

pub told_more : (database : Database) (without : List (List ℕ)) (after next : Option (List ℕ)) (most : ℕ) (kept page now : List Row) → 0 < most → IsToldUpTo database without after kept
    → IsPage database after most page → IfSome next (IsLastKey page) → IfNone next (page ≡ []) → now ≡ kept ++ kept_of without page
    → IsToldUpTo database without next now × (length (rows_after [] next database) < length (rows_after [] after database))
told_more database without after None most kept page now some told is last none kept_now =
    let left = rows_after [] after database in
    absurd (omega (arith, some, ap length is.rows, ap length none, length-take_some most left some is.more))
  where
    length-take_some : (n : ℕ) (list : List Row) → 0 < n → n < length list → length (take n list) ≡ n
    length-take_some n list less more = length-take-le n list (omega (arith, more))
told_more database without after (Some key) most kept page now some told is last none kept_now =
    let left = rows_after [] after database in
    let rest = last_left database without after most told.front page key told.split is.rows last in (
      record {
        front = told.front ++ page;
        split = told.split ∙ ap (λ one. told.front ++ one) (sym (take-drop most left) ∙ ap (λ one. one ++ drop most left) (sym is.rows) ∙ ap (λ one. page ++ one) (sym rest))
            ∙ sym (append_assoc told.front page (rows_after [] (Some key) database));
        kept_so_far = kept_now ∙ ap (λ one. one ++ kept_of without page) told.kept_so_far ∙ sym (filter-append (λ (row : Row). not (is_left_out without row.0)) told.front page);
      },
      omega (arith, some, is.more, ap length rest, length-drop most left),
    )

-- the last of the rows stands behind the others
pub last_split : (rows : List Row) (row : Row) → slice_get rows (length rows - 1) ≡ Some row → rows ≡ take (length rows - 1) rows ++ row ∷ []
last_split rows row got =
    let at = length rows - 1 in
    let within : at < length rows = slice_get_within rows at row got in
    let here : get_or rows at row ≡ row = get_or_from_slice_get rows at row row got in
    let all : at + 1 ≡ length rows = omega (arith, within) in
    sym (take_all (at + 1) rows (omega (arith, all))) ∙ take_more rows at row within ∙ ap (λ one. take at rows ++ one ∷ []) here

-- whether more are left than a page has
pub within_page : (more : Bool) (most number : ℕ) → (IsTrue more ↔ (most < number)) → more ≡ false → number ≤ most
within_page more most number is none =
    elim (cases_lt most number) as (λ _. number ≤ most) [
      | inl less ↦ let both : false ≡ true = sym none ∙ is.1 less in absurd cc
      | inr few ↦ omega (arith, few)
    ]
