-- The rows that are asked for are those of the slots that are gone over.
use Rattle.std.proofs.Common.{◌≡◌, ℕ, ◌<◌, ◌≤◌, Bool, true, false, cond, ◌&&◌, List, [], ◌∷◌, ◌++◌, length, take, filter, IsTrue, Option, None, Some, refl, sym, ◌∙◌, ap, arith, length-append, append_assoc}
use Rattle.std.specs.Prelude.{◌↔◌}
use Rattle.std.specs.FinMap as map
use Rattle.std.specs.FinMap.Entries.{by_order, put}
use Rattle.std.specs.List.{starts_with, AllByRecursion}
use Rattle.std.specs.List.Sorted.{IsStrictlySortedBy}
use Rattle.std.specs.Prelude.{nat_eq}
use Rattle.std.specs.Map.{keys_of}
use Rattle.std.specs.BTreeMap.Range.{range_contains}
use Rattle.std.specs.Ordering.{is_le, is_lt, nat_cmp, ordering_reverse}
use Rattle.std.specs.Cmp.{alike_right}
use Rattle.std.specs.Cmp.Lexicographic.{slice_cmp, nat_list_cmp_total}
use Rattle.std.specs.declared.cmp.Ordering.TheVariants.{Less, Equal, Greater}
use Rattle.std.specs.declared.ops.Bound.TheVariants.{Excluded, Unbounded}
use Rattle.std.proofs.lemmas.List.{append-nil, nil_from_length, take-append-le, take_all}
use Rattle.bayou_base.specs.declared.value.Value.{Value}
use Rattle.bayou_lang.specs.Database.{begins_with, empty}
use Rattle.bayou_lang.specs.Laws.Database.{changed-same}
use Rattle.bayou_log.specs.Db.{Slots, database_of}
use Rattle.bayou_log.specs.Inner.Counting.{start_at}
use Rattle.bayou_log.specs.Inner.Walking.{rows_in, start_behind, with_row}
use Rattle.bayou_log.specs.Rows.{Row, is_after, rows_after}
use Rattle.bayou_log.proofs.Prefixed.{Ascends, and_none, and_true, below, beyond, is_from-after, kept_ascends, no_slot}
use Rattle.bayou_log.proofs.Slots.{database_of-no_slot}

-- ---- the order of keys

before_what_follows : (a b c : List ℕ) → is_lt (slice_cmp nat_cmp a b) ≡ true → is_le (slice_cmp nat_cmp b c) ≡ true → is_lt (slice_cmp nat_cmp a c) ≡ true
before_what_follows a b c first second =
    let order = nat_list_cmp_total in
    elim (slice_cmp nat_cmp a b) as (λ r. slice_cmp nat_cmp a b ≡ r → is_lt r ≡ true → is_lt (slice_cmp nat_cmp a c) ≡ true) [
      | Less ↦ λ p _. elim (slice_cmp nat_cmp b c) as (λ r. slice_cmp nat_cmp b c ≡ r → is_le r ≡ true → is_lt (slice_cmp nat_cmp a c) ≡ true) [
        | Less ↦ λ q _. ap is_lt (order.trans a b c p q)
        | Equal ↦ λ q _. ap is_lt (sym (alike_right order b c a q) ∙ p)
        | Greater ↦ λ q h. absurd cc
      ] refl second
      | Equal ↦ λ p h. absurd cc
      | Greater ↦ λ p h. absurd cc
    ] refl first

follows_what_is_before : (a b c : List ℕ) → is_le (slice_cmp nat_cmp a b) ≡ true → is_lt (slice_cmp nat_cmp b c) ≡ true → is_le (slice_cmp nat_cmp a c) ≡ true
follows_what_is_before a b c first second =
    let order = nat_list_cmp_total in
    elim (slice_cmp nat_cmp b c) as (λ r. slice_cmp nat_cmp b c ≡ r → is_lt r ≡ true → is_le (slice_cmp nat_cmp a c) ≡ true) [
      | Less ↦ λ q _. elim (slice_cmp nat_cmp a b) as (λ r. slice_cmp nat_cmp a b ≡ r → is_le r ≡ true → is_le (slice_cmp nat_cmp a c) ≡ true) [
        | Less ↦ λ p _. ap is_le (order.trans a b c p q)
        | Equal ↦ λ p _. ap is_le (order.congr a b c p ∙ q)
        | Greater ↦ λ p h. absurd cc
      ] refl first
      | Equal ↦ λ q h. absurd cc
      | Greater ↦ λ q h. absurd cc
    ] refl second

not_before : (a b : List ℕ) → is_lt (slice_cmp nat_cmp a b) ≡ false → is_le (slice_cmp nat_cmp b a) ≡ true
not_before a b not =
    let order = nat_list_cmp_total in
    elim (slice_cmp nat_cmp a b) as (λ r. slice_cmp nat_cmp a b ≡ r → is_lt r ≡ false → is_le (slice_cmp nat_cmp b a) ≡ true) [
      | Less ↦ λ p h. absurd cc
      | Equal ↦ λ p _. ap is_le (order.antisymm b a ∙ ap ordering_reverse p)
      | Greater ↦ λ p _. ap is_le (order.antisymm b a ∙ ap ordering_reverse p)
    ] refl not

-- ---- the range that is gone over

-- whether a slot is in it
abbrev pub is_in : List ℕ → Option (List ℕ) → List ℕ × Option Value → Bool
is_in prefix after slot = range_contains (slice_cmp nat_cmp) (start_behind prefix after) Unbounded slot.0

-- whether a row's key begins so
abbrev pub begins : List ℕ → Row → Bool
begins prefix row = begins_with prefix row.0

-- what is in it comes after the key
in_after : (prefix : List ℕ) (after : Option (List ℕ)) (slot : List ℕ × Option Value) → is_in prefix after slot ≡ true → is_after after slot.0 ≡ true
in_after prefix None slot is = refl
in_after prefix (Some last) slot is =
    elim (is_lt (slice_cmp nat_cmp last prefix)) as (λ b. is_lt (slice_cmp nat_cmp last prefix) ≡ b
    → range_contains (slice_cmp nat_cmp) (cond b (start_at prefix) (Excluded last)) Unbounded slot.0 ≡ true → is_lt (slice_cmp nat_cmp last slot.0) ≡ true) [
      | true ↦ λ e here. before_what_follows last prefix slot.0 e (sym (is_from-after prefix slot) ∙ here)
      | false ↦ λ e here. sym (and_true (is_lt (slice_cmp nat_cmp last slot.0))) ∙ here
    ] refl is

-- and none of it before the prefix
in_from : (prefix : List ℕ) (after : Option (List ℕ)) (slot : List ℕ × Option Value) → is_in prefix after slot ≡ true → is_le (slice_cmp nat_cmp prefix slot.0) ≡ true
in_from prefix None slot is = sym (is_from-after prefix slot) ∙ is
in_from prefix (Some last) slot is =
    elim (is_lt (slice_cmp nat_cmp last prefix)) as (λ b. is_lt (slice_cmp nat_cmp last prefix) ≡ b
    → range_contains (slice_cmp nat_cmp) (cond b (start_at prefix) (Excluded last)) Unbounded slot.0 ≡ true → is_le (slice_cmp nat_cmp prefix slot.0) ≡ true) [
      | true ↦ λ e here. sym (is_from-after prefix slot) ∙ here
      | false ↦ λ e here. follows_what_is_before prefix last slot.0 (not_before last prefix e) (sym (and_true (is_lt (slice_cmp nat_cmp last slot.0))) ∙ here)
    ] refl is

-- what isn't in it isn't asked for
out_none : (prefix : List ℕ) (after : Option (List ℕ)) (slot : List ℕ × Option Value) → is_in prefix after slot ≡ false → (begins_with prefix slot.0 && is_after after slot.0) ≡ false
out_none prefix None slot out = ap (λ b. b && true) (below prefix slot.0 (sym (is_from-after prefix slot) ∙ out))
out_none prefix (Some last) slot out =
    elim (is_lt (slice_cmp nat_cmp last prefix)) as (λ b. is_lt (slice_cmp nat_cmp last prefix) ≡ b
    → range_contains (slice_cmp nat_cmp) (cond b (start_at prefix) (Excluded last)) Unbounded slot.0 ≡ false → (begins_with prefix slot.0 && is_lt (slice_cmp nat_cmp last slot.0)) ≡ false) [
      | true ↦ λ e gone. ap (λ b. b && is_lt (slice_cmp nat_cmp last slot.0)) (below prefix slot.0 (sym (is_from-after prefix slot) ∙ gone))
      | false ↦ λ e gone. ap (λ b. begins_with prefix slot.0 && b) (sym (and_true (is_lt (slice_cmp nat_cmp last slot.0))) ∙ gone) ∙ and_none (begins_with prefix slot.0)
    ] refl out

-- it ascends
pub walk_ascends : (prefix : List ℕ) (after : Option (List ℕ)) (slots : Slots) → IsStrictlySortedBy (slice_cmp nat_cmp) (keys_of slots) → Ascends prefix (filter (is_in prefix after) slots)
walk_ascends prefix after slots sorted = kept_ascends prefix (is_in prefix after) (in_from prefix after) slots sorted

-- ---- the rows of slots

later_rows : (key : List ℕ) (slots : Slots) → AllByRecursion (λ later. slice_cmp nat_cmp key later ≡ Less) (keys_of slots)
    → AllByRecursion (λ (row : Row). slice_cmp nat_cmp key row.0 ≡ Less) (rows_in slots)
later_rows key [] all = tt
later_rows key (slot ∷ slots) all =
    elim slot.1 as (λ value. AllByRecursion (λ (row : Row). slice_cmp nat_cmp key row.0 ≡ Less) (with_row slot.0 value (rows_in slots))) [
      | None ↦ later_rows key slots all.1
      | Some value ↦ (all.0, later_rows key slots all.1)
    ]

put_least : (key : List ℕ) (value : Value) (rows : List Row) → AllByRecursion (λ (row : Row). slice_cmp nat_cmp key row.0 ≡ Less) rows
    → put (slice_cmp nat_cmp) key value rows ≡ (key, value) ∷ rows
put_least key value [] later = refl
put_least key value (row ∷ rows) later =
    ap (λ order. by_order order ((key, value) ∷ row ∷ rows) ((row.0, value) ∷ rows) (row ∷ put (slice_cmp nat_cmp) key value rows)) later.0

-- a database's rows are those of its slots that have something
entries_of : (slots : Slots) → IsStrictlySortedBy (slice_cmp nat_cmp) (keys_of slots) → map.entries (database_of slots) ≡ rows_in slots
unfolding IsStrictlySortedBy
entries_of [] sorted = nil_from_length (map.entries empty) (sym (map.len-entries empty) ∙ map.len-empty (slice_cmp nat_cmp) Value)
entries_of (slot ∷ slots) sorted =
    let database = database_of slots in
    let rest = entries_of slots sorted.1 in
    elim slot.1 as (λ value. map.entries (database_of ((slot.0, value) ∷ slots)) ≡ with_row slot.0 value (rows_in slots)) [
      | None ↦ ap map.entries (changed-same slot.0 None database (database_of-no_slot slots slot.0 (no_slot slot.0 slots sorted.0))) ∙ rest
      | Some value ↦
          map.entries-insert nat_list_cmp_total database slot.0 value ∙ ap (put (slice_cmp nat_cmp) slot.0 value) rest
          ∙ put_least slot.0 value (rows_in slots) (later_rows slot.0 slots sorted.0)
    ]

-- the rows that are asked for are those of the range whose keys begin so
walked : (prefix : List ℕ) (after : Option (List ℕ)) (slots : Slots)
    → filter (λ (row : Row). begins_with prefix row.0 && is_after after row.0) (rows_in slots) ≡ filter (begins prefix) (rows_in (filter (is_in prefix after) slots))
walked prefix after [] = refl
walked prefix after (slot ∷ slots) =
    let asked : Row → Bool = λ row. begins_with prefix row.0 && is_after after row.0 in
    let left = filter (is_in prefix after) slots in
    let rows = rows_in slots in
    let rest = walked prefix after slots in
    elim (is_in prefix after slot) as (λ b. is_in prefix after slot ≡ b → filter asked (with_row slot.0 slot.1 rows) ≡ filter (begins prefix) (rows_in (cond b (slot ∷ left) left))) [
      | true ↦ λ here. elim slot.1 as (λ value. filter asked (with_row slot.0 value rows) ≡ filter (begins prefix) (with_row slot.0 value (rows_in left))) [
        | None ↦ rest
        | Some value ↦
            ap (λ b. cond (begins_with prefix slot.0 && b) ((slot.0, value) ∷ filter asked rows) (filter asked rows)) (in_after prefix after slot here)
            ∙ ap (λ b. cond b ((slot.0, value) ∷ filter asked rows) (filter asked rows)) (and_true (begins_with prefix slot.0))
            ∙ ap (λ list. cond (begins_with prefix slot.0) ((slot.0, value) ∷ list) list) rest
      ]
      | false ↦ λ out. elim slot.1 as (λ value. filter asked (with_row slot.0 value rows) ≡ filter (begins prefix) (rows_in left)) [
        | None ↦ rest
        | Some value ↦ ap (λ b. cond b ((slot.0, value) ∷ filter asked rows) (filter asked rows)) (out_none prefix after slot out) ∙ rest
      ]
    ] refl

-- so they are the rows of the database that are asked for
pub walk_rows : (prefix : List ℕ) (after : Option (List ℕ)) (slots : Slots) → IsStrictlySortedBy (slice_cmp nat_cmp) (keys_of slots)
    → filter (begins prefix) (rows_in (filter (is_in prefix after) slots)) ≡ rows_after prefix after (database_of slots)
walk_rows prefix after slots sorted =
    sym (walked prefix after slots) ∙ ap (filter (λ (row : Row). begins_with prefix row.0 && is_after after row.0)) (sym (entries_of slots sorted))

-- ---- where one doesn't begin so

later_none : (prefix key : List ℕ) (slots : Slots) → starts_with nat_eq key prefix ≡ false → is_le (slice_cmp nat_cmp prefix key) ≡ true
    → AllByRecursion (λ (later : List ℕ × Option Value). slice_cmp nat_cmp key later.0 ≡ Less) slots → filter (begins prefix) (rows_in slots) ≡ []
later_none prefix key [] other after all = refl
later_none prefix key (slot ∷ slots) other after all =
    let rows = filter (begins prefix) (rows_in slots) in
    let rest = later_none prefix key slots other after all.1 in
    elim slot.1 as (λ value. filter (begins prefix) (with_row slot.0 value (rows_in slots)) ≡ []) [
      | None ↦ rest
      | Some value ↦ ap (λ b. cond b ((slot.0, value) ∷ rows) rows) (beyond prefix key slot.0 other after all.0) ∙ rest
    ]

-- none from it on does
pub none_begins : (prefix : List ℕ) (slot : List ℕ × Option Value) (slots : Slots) → Ascends prefix (slot ∷ slots) → begins_with prefix slot.0 ≡ false
    → filter (begins prefix) (rows_in (slot ∷ slots)) ≡ []
unfolding Ascends
none_begins prefix slot slots ascends other =
    let rows = filter (begins prefix) (rows_in slots) in
    let rest = later_none prefix slot.0 slots other ascends.0 ascends.1 in
    elim slot.1 as (λ value. filter (begins prefix) (with_row slot.0 value (rows_in slots)) ≡ []) [
      | None ↦ rest
      | Some value ↦ ap (λ b. cond b ((slot.0, value) ∷ rows) rows) other ∙ rest
    ]

-- ---- what is told

-- one more row
pub one_more_row : (prefix : List ℕ) (told total : List Row) (key : List ℕ) (value : Value) (slots : Slots) → begins_with prefix key ≡ true
    → told ++ filter (begins prefix) (rows_in ((key, Some value) ∷ slots)) ≡ total → (told ++ (key, value) ∷ []) ++ filter (begins prefix) (rows_in slots) ≡ total
one_more_row prefix told total key value slots here so_far =
    let rows = filter (begins prefix) (rows_in slots) in
    let first : filter (begins prefix) (rows_in ((key, Some value) ∷ slots)) ≡ (key, value) ∷ rows = ap (λ b. cond b ((key, value) ∷ rows) rows) here in
    let both : told ++ (key, value) ∷ rows ≡ total = ap (λ list. told ++ list) (sym first) ∙ so_far in
    simp append_assoc both

-- nothing is left
pub is_all : (told left total : List Row) (most : ℕ) → told ++ left ≡ total → left ≡ [] → length told ≤ most
    → (told ≡ take most total) × (IsTrue false ↔ (most < length total))
is_all told left total most so_far none within =
    let same : told ≡ total = sym (append-nil told) ∙ ap (λ list. told ++ list) (sym none) ∙ so_far in (
      sym (take_all most told within) ∙ ap (take most) same,
      (λ h. absurd (let e : false ≡ true = h in cc), λ more. absurd (omega (arith, more, within, ap length same))),
    )

-- one is left that there is no place for
pub is_full : (prefix : List ℕ) (told total : List Row) (key : List ℕ) (value : Value) (slots : Slots) (most : ℕ) → begins_with prefix key ≡ true
    → told ++ filter (begins prefix) (rows_in ((key, Some value) ∷ slots)) ≡ total → length told ≤ most → most ≤ length told
    → (told ≡ take most total) × (IsTrue true ↔ (most < length total))
is_full prefix told total key value slots most here so_far within reached =
    let rows = filter (begins prefix) (rows_in slots) in
    let first : filter (begins prefix) (rows_in ((key, Some value) ∷ slots)) ≡ (key, value) ∷ rows = ap (λ b. cond b ((key, value) ∷ rows) rows) here in
    let both : told ++ (key, value) ∷ rows ≡ total = ap (λ list. told ++ list) (sym first) ∙ so_far in
    let longer : most < length total = omega (arith, ap length both, length-append told ((key, value) ∷ rows), within) in (
      sym (take_all most told within) ∙ sym (take-append-le most told ((key, value) ∷ rows) reached) ∙ ap (take most) both,
      (λ _. longer, λ _. refl),
    )
