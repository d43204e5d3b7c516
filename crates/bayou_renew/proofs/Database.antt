-- What the rows of a database make, where they are put into the empty one.
use Rattle.std.proofs.Common.{◌≡◌, ℕ, Bool, true, false, cond, not, T, List, [], ◌∷◌, ◌++◌, map, filter, take, drop, Option, None, Some, refl, sym, ap, subst, ◌∙◌}
use Rattle.std.specs.Prelude.{◌&&◌}
use Rattle.std.specs.FinMap as finite
use Rattle.std.specs.FinMap.Entries.{below_all, find, find-where_key, is_sorted, is_sorted-where_key}
use Rattle.std.specs.Ordering.{eq_by_cmp, is_eq, is_lt, nat_cmp}
use Rattle.std.specs.declared.cmp.Ordering.{Ordering}
use Rattle.std.specs.declared.cmp.Ordering.TheVariants.{Less, Equal, Greater}
use Rattle.std.specs.Cmp.Lexicographic.{slice_cmp, nat_list_cmp_total}
use Rattle.bayou_base.specs.declared.value.Value.{Value}
use Rattle.bayou_lang.specs.declared.eval.Outcome.TheVariants.{Updated, Nothing}
use Rattle.bayou_lang.specs.declared.program.Program.{Program}
use Rattle.bayou_lang.specs.Database.{Database, changed, empty, value_at}
use Rattle.bayou_lang.specs.Meaning.{Effect, after_ops, all_hold, mean, merged, updated}
use Rattle.std.specs.Option.{option_map_or}
use Rattle.bayou_log.specs.Rows.{Row}
use Rattle.bayou_renew.specs.Renewal.{IsWithout, Puts, is_left_out, kept_of, kept_rows, put_of}

-- the database in which the rows were put, one after another
abbrev pub after_puts : List Row → Database → Database
after_puts [] database = database
after_puts (row ∷ rows) database = after_puts rows (changed row.0 (Some row.1) database)

pub after_puts-append : (first others : List Row) (database : Database) → after_puts (first ++ others) database ≡ after_puts others (after_puts first database)
after_puts-append [] others database = refl
after_puts-append (row ∷ first) others database = after_puts-append first others (changed row.0 (Some row.1) database)

after_ops-puts : (rows : List Row) (database : Database) → after_ops (map put_of rows) database ≡ Some (after_puts rows database)
after_ops-puts [] database = refl
after_ops-puts (row ∷ rows) database = after_ops-puts rows (changed row.0 (Some row.1) database)

-- what a program does that puts them
pub mean-puts : (rows : List Row) (program : Program) (database : Database) → Puts rows program → (mean program database).1 ≡ after_puts rows database
mean-puts rows program database puts =
    ap (λ checks. (cond (all_hold checks database) (updated program.update.items database) (merged 0 program.merge.items database)).1) puts.check
    ∙ ap (λ ops. (updated ops database).1) puts.update
    ∙ ap ran (after_ops-puts rows database)
  where
    ran : Option Database → Database
    ran after = (option_map_or {U = Effect} (λ made. (Updated, made)) after (Nothing, database)).1

abbrev order : List ℕ → List ℕ → Ordering
order = slice_cmp nat_cmp

-- this, or else that
abbrev or_else : Option Value → Option Value → Option Value
or_else None other = other
or_else (Some value) other = Some value

first : (a b : Bool) → T (a && b) → T a
first true b p = tt
first false b p = p

second : (a b : Bool) → T (a && b) → T b
second true b p = p
second false b p = absurd p

less : (r : Ordering) → T (is_lt r) → is_eq r ≡ false
less Less p = refl
less Equal p = absurd p
less Greater p = absurd p

tied : (r : Ordering) → is_eq r ≡ true → r ≡ Equal
tied Less p = absurd (subst T (sym p) tt)
tied Equal p = refl
tied Greater p = absurd (subst T (sym p) tt)

-- a key below all of them is none of theirs
find_below : (key : List ℕ) (rows : List Row) → T (below_all order key rows) → find order key rows ≡ None
find_below key [] below = refl
find_below key (row ∷ rows) below =
    ap (λ t. cond t (Some row.1) (find order key rows)) (less (order key row.0) (first _ _ below)) ∙ find_below key rows (second _ _ below)

-- where the keys of rows rise, a key has what its row says, or else what it had
after_puts-at : (rows : List Row) (database : Database) (key : List ℕ) → T (is_sorted order rows)
    → value_at (after_puts rows database) key ≡ or_else (find order key rows) (value_at database key)
after_puts-at [] database key sorted = refl
after_puts-at (row ∷ rows) database key sorted =
    after_puts-at rows (changed row.0 (Some row.1) database) key (second _ _ sorted)
    ∙ ap (or_else (find order key rows)) (finite.get-insert nat_list_cmp_total database row.0 row.1 key)
    ∙ elim (eq_by_cmp order key row.0) as (λ t. eq_by_cmp order key row.0 ≡ t → or_else (find order key rows) (cond t (Some row.1) (value_at database key)) ≡ or_else (cond t (Some row.1) (find order key rows)) (value_at database key)) [
      | true ↦ λ is.
          let same : key ≡ row.0 = finite.slice_cmp-IsAntisymmetric finite.nat_cmp-IsAntisymmetric key row.0 (tied _ is) in
          let none : find order key rows ≡ None = find_below key rows (subst (λ k. T (below_all order k rows)) (sym same) (first _ _ sorted)) in
          ap (λ found. or_else found (Some row.1)) none
      | false ↦ λ is. refl
    ] refl

-- the rows of a database, put into the empty one, make it again but for what is left out
pub kept-without : (prefixes : List (List ℕ)) (old : Database) → IsWithout prefixes old (after_puts (kept_rows prefixes old) empty)
kept-without prefixes old key =
    let kept : List ℕ → Bool = λ k. not (is_left_out prefixes k) in
    let rows = kept_rows prefixes old in
    after_puts-at rows empty key (is_sorted-where_key order kept (finite.entries old) (finite.entries_sorted old))
    ∙ ap (or_else (find order key rows)) (finite.get-empty order key)
    ∙ or_none (find order key rows)
    ∙ find-where_key order kept key (λ other tie. ap kept (sym (finite.slice_cmp-IsAntisymmetric finite.nat_cmp-IsAntisymmetric key other tie))) (finite.entries old)
    ∙ ap (λ found. cond (kept key) found None) (sym (finite.get-entries old key))
    ∙ turned (is_left_out prefixes key) (value_at old key)
  where
    or_none : (found : Option Value) → or_else found None ≡ found
    or_none None = refl
    or_none (Some value) = refl

    turned : (b : Bool) (found : Option Value) → cond (not b) found None ≡ cond b None found
    turned true found = refl
    turned false found = refl
