-- Laws of databases: what a change does at each key, and to the number of keys that begin so.
use Rattle.std.proofs.Common.{◌≡◌, ℕ, zero, suc, ◌+◌, ◌-◌, ◌≤◌, Bool, true, false, cond, ◌&&◌, T, List, [], ◌∷◌, length, filter, map, Option, None, Some, is_some, ap, sym, ◌∙◌, refl, arith}
use Rattle.std.specs.FinMap as finite
use Rattle.std.specs.FinMap.Entries.{find-where_key, is_sorted, is_sorted-where_key, where_key}
use Rattle.std.specs.Ordering.{eq_by_cmp, nat_cmp}
use Rattle.std.specs.Cmp.{eq_by_cmp_equiv}
use Rattle.std.specs.Cmp.Lexicographic.{slice_cmp, bytes_decides, nat_list_cmp_total}
use Rattle.std.proofs.lemmas.Map.Text.{is_eq-slice_cmp}
use Rattle.bayou_base.specs.declared.value.Value.{Value}
use Rattle.bayou_lang.specs.Database.{Database, begins_with, changed, empty, number_with, same_key, value_at}

-- two databases that have the same at each key are one
pub same_database : (a b : Database) → ((key : List ℕ) → value_at a key ≡ value_at b key) → a ≡ b
same_database a b same = finite.same_map nat_list_cmp_total (finite.slice_cmp-IsAntisymmetric finite.nat_cmp-IsAntisymmetric) a b same

pub value_at-empty : (key : List ℕ) → value_at empty key ≡ None
value_at-empty key = finite.get-empty (slice_cmp nat_cmp) key

-- the map's test of two keys
same_key-tie : (key other : List ℕ) → eq_by_cmp (slice_cmp nat_cmp) other key ≡ same_key key other
same_key-tie key other = (eq_by_cmp_equiv nat_list_cmp_total).symm other key ∙ is_eq-slice_cmp key other

pub same_key-turned : (a b : List ℕ) → same_key a b ≡ same_key b a
same_key-turned a b = sym (same_key-tie a b) ∙ is_eq-slice_cmp b a

-- what a key has after a change
pub value_at-changed : (key : List ℕ) (value : Option Value) (database : Database) (other : List ℕ) → value_at (changed key value database) other ≡ cond (same_key key other) value (value_at database other)
value_at-changed key None database other =
    finite.get-remove nat_list_cmp_total database key other ∙ ap (λ same. cond same None (value_at database other)) (same_key-tie key other)
value_at-changed key (Some value) database other =
    finite.get-insert nat_list_cmp_total database key value other ∙ ap (λ same. cond same (Some value) (value_at database other)) (same_key-tie key other)

-- to give a key what it has changes nothing
pub changed-same : (key : List ℕ) (value : Option Value) (database : Database) → value_at database key ≡ value → changed key value database ≡ database
changed-same key value database has =
    same_database (changed key value database) database (λ other. value_at-changed key value database other
    ∙ elim (same_key key other) as (λ same. same_key key other ≡ same → cond same value (value_at database other) ≡ value_at database other) [
      | true ↦ λ is. sym has ∙ ap (value_at database) ((bytes_decides key other).0 is)
      | false ↦ λ is. refl
    ] refl)

-- of two changes of one key the later one counts
pub changed-again : (key : List ℕ) (value later : Option Value) (database : Database) → changed key later (changed key value database) ≡ changed key later database
changed-again key value later database =
    same_database (changed key later (changed key value database)) (changed key later database) (λ other.
    value_at-changed key later (changed key value database) other
    ∙ ap (cond (same_key key other) later) (value_at-changed key value database other)
    ∙ elim (same_key key other) as (λ same. cond same later (cond same value (value_at database other)) ≡ cond same later (value_at database other)) [
      | true ↦ refl
      | false ↦ refl
    ] ∙ sym (value_at-changed key later database other))

-- the entries of the keys that begin so
entries_with : List ℕ → Database → List (List ℕ × Value)
entries_with prefix database = where_key (slice_cmp nat_cmp) (begins_with prefix) (finite.entries database)

entries_with-ordered : (prefix : List ℕ) (database : Database) → T (is_sorted (slice_cmp nat_cmp) (entries_with prefix database))
unfolding entries_with
entries_with-ordered prefix database = is_sorted-where_key (slice_cmp nat_cmp) (begins_with prefix) (finite.entries database) (finite.entries_sorted database)

-- the part of a database whose keys begin so
part_with : List ℕ → Database → Database
part_with prefix database = finite.from_sorted (entries_with prefix database)

value_at-part_with : (prefix : List ℕ) (database : Database) (key : List ℕ) → value_at (part_with prefix database) key ≡ cond (begins_with prefix key) (value_at database key) None
unfolding part_with entries_with
value_at-part_with prefix database key =
    finite.get-from_sorted (slice_cmp nat_cmp) (entries_with prefix database) key (entries_with-ordered prefix database)
    ∙ find-where_key (slice_cmp nat_cmp) (begins_with prefix) key
    (λ other tied. ap (begins_with prefix) (sym (finite.slice_cmp-IsAntisymmetric finite.nat_cmp-IsAntisymmetric key other tied)))
    (finite.entries database)
    ∙ ap (λ found. cond (begins_with prefix key) found None) (sym (finite.get-entries database key))

length-filter_keys : (test : List ℕ → Bool) (entries : List (List ℕ × Value)) → length (filter test (map (λ entry. entry.0) entries)) ≡ length (filter (λ entry. test entry.0) entries)
length-filter_keys test [] = refl
length-filter_keys test (entry ∷ entries) =
    elim (test entry.0) as (λ passes. length (cond passes (entry.0 ∷ filter test (map (λ entry. entry.0) entries)) (filter test (map (λ entry. entry.0) entries))) ≡ length (cond passes (entry ∷ filter (λ entry. test entry.0) entries) (filter (λ entry. test entry.0) entries))) [
      | true ↦ ap suc (length-filter_keys test entries)
      | false ↦ length-filter_keys test entries
    ]

-- the number of keys that begin so is the size of that part
number_with-part : (prefix : List ℕ) (database : Database) → number_with prefix database ≡ finite.len (part_with prefix database)
unfolding part_with entries_with
number_with-part prefix database =
    length-filter_keys (begins_with prefix) (finite.entries database)
    ∙ ap length (sym (finite.entries-from_sorted (slice_cmp nat_cmp) (entries_with prefix database) (entries_with-ordered prefix database)))
    ∙ sym (finite.len-entries (part_with prefix database))

-- a change of a key that doesn't begin so takes nothing from that part
part_with-changed : (prefix key : List ℕ) (value : Option Value) (database : Database) → part_with prefix (changed key value database) ≡ changed key (cond (begins_with prefix key) value None) (part_with prefix database)
part_with-changed prefix key value database =
    same_database (part_with prefix (changed key value database)) (changed key (cond (begins_with prefix key) value None) (part_with prefix database)) (λ other.
    value_at-part_with prefix (changed key value database) other
    ∙ ap (λ found. cond (begins_with prefix other) found None) (value_at-changed key value database other)
    ∙ elim (same_key key other) as (λ same. same_key key other ≡ same → cond (begins_with prefix other) (cond same value (value_at database other)) None ≡ cond same (cond (begins_with prefix key) value None) (cond (begins_with prefix other) (value_at database other) None)) [
      | true ↦ λ is. ap (λ begun. cond (begins_with prefix begun) value None) (sym ((bytes_decides key other).0 is))
      | false ↦ λ is. refl
    ] refl
    ∙ ap (cond (same_key key other) (cond (begins_with prefix key) value None)) (sym (value_at-part_with prefix database other))
    ∙ sym (value_at-changed key (cond (begins_with prefix key) value None) (part_with prefix database) other))

-- one, where it is so
abbrev one_if : Bool → ℕ
one_if b = cond b 1 0

has_one : (database : Database) (key : List ℕ) → is_some (value_at database key) ≡ true → 1 ≤ finite.len database
has_one database key has =
    elim (finite.len database) as (λ size. finite.len database ≡ size → 1 ≤ size) [
      | zero ↦ λ none.
          let gone : is_some (value_at database key) ≡ false = ap (λ d. is_some (value_at d key)) (finite.empty_of_len database none) ∙ ap is_some (value_at-empty key) in
          let both : true ≡ false = sym has ∙ gone in
          absurd cc
      | suc size ↦ λ some. omega arith
    ] refl

-- the size after a change
len-changed : (key : List ℕ) (value : Option Value) (database : Database) → finite.len (changed key value database) + one_if (is_some (value_at database key)) ≡ finite.len database + one_if (is_some value)
len-changed key None database =
    elim (is_some (value_at database key)) as (λ had. is_some (value_at database key) ≡ had → finite.len (finite.remove database key) + one_if had ≡ finite.len database + 0) [
      | true ↦ λ had. omega (arith, finite.len-remove nat_list_cmp_total database key ∙ ap (λ b. cond b (finite.len database - 1) (finite.len database)) had, has_one database key had)
      | false ↦ λ had. omega (arith, finite.len-remove nat_list_cmp_total database key ∙ ap (λ b. cond b (finite.len database - 1) (finite.len database)) had)
    ] refl
len-changed key (Some value) database =
    elim (is_some (value_at database key)) as (λ had. is_some (value_at database key) ≡ had → finite.len (finite.insert database key value) + one_if had ≡ finite.len database + 1) [
      | true ↦ λ had. omega (arith, finite.len-insert nat_list_cmp_total database key value ∙ ap (λ b. cond b (finite.len database) (finite.len database + 1)) had)
      | false ↦ λ had. omega (arith, finite.len-insert nat_list_cmp_total database key value ∙ ap (λ b. cond b (finite.len database) (finite.len database + 1)) had)
    ] refl

pub number_with-empty : (prefix : List ℕ) → number_with prefix empty ≡ 0
number_with-empty prefix = number_with-part prefix empty ∙ ap finite.len none ∙ finite.len-empty (slice_cmp nat_cmp) Value
  where
    none : part_with prefix empty ≡ empty
    none = same_database (part_with prefix empty) empty (λ key.
        value_at-part_with prefix empty key
        ∙ ap (λ found. cond (begins_with prefix key) found None) (value_at-empty key)
        ∙ elim (begins_with prefix key) as (λ begins. cond {A = Option Value} begins None None ≡ None) [ true ↦ refl | false ↦ refl ]
        ∙ sym (value_at-empty key))

is_some-where : (begins : Bool) (value : Option Value) → is_some (cond begins value None) ≡ (begins && is_some value)
is_some-where true value = refl
is_some-where false value = refl

-- a key that begins so counts where it has a value, before a change and after it
pub number_with-changed : (prefix key : List ℕ) (value : Option Value) (database : Database) →
    number_with prefix (changed key value database) + cond (begins_with prefix key && is_some (value_at database key)) 1 0
    ≡ number_with prefix database + cond (begins_with prefix key && is_some value) 1 0
number_with-changed prefix key value database =
    let begins = begins_with prefix key in
    let part = part_with prefix database in
    let size = len-changed key (cond begins value None) part in
    let had : is_some (value_at part key) ≡ (begins && is_some (value_at database key)) =
    ap is_some (value_at-part_with prefix database key) ∙ is_some-where begins (value_at database key) in
    ap (λ n. n + one_if (begins && is_some (value_at database key))) (number_with-part prefix (changed key value database) ∙ ap finite.len (part_with-changed prefix key value database))
    ∙ ap (λ b. finite.len (changed key (cond begins value None) part) + one_if b) (sym had)
    ∙ size
    ∙ ap (λ n. n + one_if (is_some (cond begins value None))) (sym (number_with-part prefix database))
    ∙ ap (λ b. number_with prefix database + one_if b) (is_some-where begins value)
