-- Keys that begin so stand together in the order of keys.
use Rattle.std.proofs.Common.{◌≡◌, ℕ, suc, ◌+◌, ◌<◌, ◌≤◌, min, Bool, true, false, cond, ◌&&◌, List, [], ◌∷◌, length, take, filter, Option, Some, refl, sym, ◌∙◌, ap, arith}
use Rattle.std.specs.Prelude.{◌==◌, nat_eq, ⊤}
use Rattle.std.specs.List.{starts_with, AllByRecursion}
use Rattle.std.specs.List.Sorted.{IsStrictlySortedBy}
use Rattle.std.specs.Option.{is_some}
use Rattle.std.specs.Int.{from_bool}
use Rattle.std.specs.Map.{keys_of}
use Rattle.std.specs.BTreeMap.Range.{range_contains}
use Rattle.std.specs.Ordering.{is_eq, is_le, nat_cmp, ordering_then}
use Rattle.std.specs.Cmp.Lexicographic.{pointwise, slice_cmp}
use Rattle.std.specs.declared.cmp.Ordering.TheVariants.{Less, Equal, Greater}
use Rattle.std.specs.declared.ops.Bound.TheVariants.{Unbounded}
use Rattle.std.proofs.lemmas.Cmp.{ranked}
use Rattle.bayou_base.specs.declared.value.Value.{Value}
use Rattle.bayou_lang.specs.Database.{begins_with, changed, number_with, value_at}
use Rattle.bayou_lang.specs.Laws.Database.{number_with-changed, number_with-empty}
use Rattle.bayou_log.specs.Db.{Slots, database_of}
use Rattle.bayou_log.specs.Inner.Counting.{start_at}
use Rattle.bayou_log.proofs.Slots.{database_of-no_slot, slot_at}

-- whether the slot has something, and its key begins so
abbrev pub counts : List ℕ → List ℕ × Option Value → Bool
counts prefix slot = begins_with prefix slot.0 && is_some slot.1

pub and_none : (b : Bool) → (b && false) ≡ false
and_none true = refl
and_none false = refl

apart_above : (x y : ℕ) → y < x → (x == y) ≡ false
apart_above x y lt = grind (arith, lt)

apart_below : (x y : ℕ) → x < y → (x == y) ≡ false
apart_below x y lt = grind (arith, lt)

-- what comes before the prefix doesn't begin with it
pub below : (prefix key : List ℕ) → is_le (slice_cmp nat_cmp prefix key) ≡ false → starts_with nat_eq key prefix ≡ false
below [] [] e = absurd cc
below [] (y ∷ ys) e = absurd cc
below (x ∷ xs) [] e = refl
below (x ∷ xs) (y ∷ ys) e =
    elim (nat_cmp x y) as (λ r. nat_cmp x y ≡ r → is_le (ordering_then r (slice_cmp nat_cmp xs ys)) ≡ false → ((x == y) && pointwise nat_eq xs (take (length xs) ys)) ≡ false) [
      | Less ↦ λ p e. absurd cc
      | Equal ↦ λ p e. ap (λ b. (x == y) && b) (below xs ys e) ∙ and_none (x == y)
      | Greater ↦ λ p e. ap (λ b. b && pointwise nat_eq xs (take (length xs) ys)) (apart_above x y (ranked x y Greater (sym p)))
    ] refl e

-- behind the first that comes after the prefix and doesn't begin with it none begins with it
pub beyond : (prefix key later : List ℕ) → starts_with nat_eq key prefix ≡ false → is_le (slice_cmp nat_cmp prefix key) ≡ true → slice_cmp nat_cmp key later ≡ Less → starts_with nat_eq later prefix ≡ false
beyond [] key later other after order = absurd cc
beyond (x ∷ xs) [] later other after order = absurd cc
beyond (x ∷ xs) (y ∷ ys) [] other after order = refl
beyond (x ∷ xs) (y ∷ ys) (z ∷ zs) other after order =
    elim (nat_cmp x y) as (λ r. nat_cmp x y ≡ r → is_le (ordering_then r (slice_cmp nat_cmp xs ys)) ≡ true → ((x == z) && pointwise nat_eq xs (take (length xs) zs)) ≡ false) [
      | Less ↦ λ p e.
          elim (nat_cmp y z) as (λ r. nat_cmp y z ≡ r → ordering_then r (slice_cmp nat_cmp ys zs) ≡ Less → ((x == z) && pointwise nat_eq xs (take (length xs) zs)) ≡ false) [
            | Less ↦ λ q f. ap (λ b. b && pointwise nat_eq xs (take (length xs) zs)) (apart_below x z (omega (arith, ranked x y Less (sym p), ranked y z Less (sym q))))
            | Equal ↦ λ q f. ap (λ b. b && pointwise nat_eq xs (take (length xs) zs)) (apart_below x z (omega (arith, ranked x y Less (sym p), ranked y z Equal (sym q))))
            | Greater ↦ λ q f. absurd cc
          ] refl order
      | Equal ↦ λ p e.
          elim (nat_cmp y z) as (λ r. nat_cmp y z ≡ r → ordering_then r (slice_cmp nat_cmp ys zs) ≡ Less → ((x == z) && pointwise nat_eq xs (take (length xs) zs)) ≡ false) [
            | Less ↦ λ q f. ap (λ b. b && pointwise nat_eq xs (take (length xs) zs)) (apart_below x z (omega (arith, ranked x y Equal (sym p), ranked y z Less (sym q))))
            | Equal ↦ λ q f.
                let same : x ≡ y = ranked x y Equal (sym p) in
                let tails : pointwise nat_eq xs (take (length xs) ys) ≡ false = rest_differs x y same other in
                ap (λ b. (x == z) && b) (beyond xs ys zs tails e f) ∙ and_none (x == z)
            | Greater ↦ λ q f. absurd cc
          ] refl order
      | Greater ↦ λ p e. absurd cc
    ] refl after
  where
    rest_differs : (x y : ℕ) {b : Bool} → x ≡ y → ((x == y) && b) ≡ false → b ≡ false
    rest_differs x y same differs = grind (arith, same, differs)

-- the slots ascend, and none of them comes before the first
unfoldable pub Ascends : List ℕ → Slots → Type 0
Ascends first [] = ⊤
Ascends first (slot ∷ slots) =
    (is_le (slice_cmp nat_cmp first slot.0) ≡ true) × AllByRecursion (λ (later : List ℕ × Option Value). slice_cmp nat_cmp slot.0 later.0 ≡ Less) slots × Ascends first slots

-- whether a slot is in the range of those that begin so
abbrev pub is_from : List ℕ → List ℕ × Option Value → Bool
is_from first slot = range_contains (slice_cmp nat_cmp) (start_at first) Unbounded slot.0

pub and_true : (b : Bool) → (b && true) ≡ b
and_true true = refl
and_true false = refl

least : (key : List ℕ) → is_le (slice_cmp nat_cmp [] key) ≡ true
least [] = refl
least (byte ∷ key) = refl

pub is_from-after : (first : List ℕ) (slot : List ℕ × Option Value) → is_from first slot ≡ is_le (slice_cmp nat_cmp first slot.0)
is_from-after [] slot = sym (least slot.0)
is_from-after (byte ∷ first) slot = and_true (is_le (slice_cmp nat_cmp (byte ∷ first) slot.0))

later_kept : (keeps : List ℕ × Option Value → Bool) (key : List ℕ) (slots : Slots) → AllByRecursion (λ k. slice_cmp nat_cmp key k ≡ Less) (keys_of slots)
    → AllByRecursion (λ (later : List ℕ × Option Value). slice_cmp nat_cmp key later.0 ≡ Less) (filter keeps slots)
later_kept keeps key [] all = tt
later_kept keeps key (slot ∷ slots) all =
    elim (keeps slot) as (λ b. AllByRecursion (λ (later : List ℕ × Option Value). slice_cmp nat_cmp key later.0 ≡ Less) (cond b (slot ∷ filter keeps slots) (filter keeps slots))) [
      | true ↦ (all.0, later_kept keeps key slots all.1)
      | false ↦ later_kept keeps key slots all.1
    ]

-- slots of which none comes before the first ascend
pub kept_ascends : (first : List ℕ) (keeps : List ℕ × Option Value → Bool) → ((slot : List ℕ × Option Value) → keeps slot ≡ true → is_le (slice_cmp nat_cmp first slot.0) ≡ true)
    → (slots : Slots) → IsStrictlySortedBy (slice_cmp nat_cmp) (keys_of slots) → Ascends first (filter keeps slots)
unfolding IsStrictlySortedBy Ascends
kept_ascends first keeps after [] sorted = tt
kept_ascends first keeps after (slot ∷ slots) sorted =
    elim (keeps slot) as (λ b. keeps slot ≡ b → Ascends first (cond b (slot ∷ filter keeps slots) (filter keeps slots))) [
      | true ↦ λ is. (after slot is, later_kept keeps slot.0 slots sorted.0, kept_ascends first keeps after slots sorted.1)
      | false ↦ λ is. kept_ascends first keeps after slots sorted.1
    ] refl

-- what the range has ascends
pub range_ascends : (first : List ℕ) (slots : Slots) → IsStrictlySortedBy (slice_cmp nat_cmp) (keys_of slots) → Ascends first (filter (is_from first) slots)
range_ascends first slots sorted = kept_ascends first (is_from first) (λ slot is. sym (is_from-after first slot) ∙ is) slots sorted

-- what isn't in the range doesn't count
pub range_counts : (first : List ℕ) (slots : Slots) → filter (counts first) (filter (is_from first) slots) ≡ filter (counts first) slots
range_counts first [] = refl
range_counts first (slot ∷ slots) =
    elim (is_from first slot) as (λ b. is_from first slot ≡ b → filter (counts first) (cond b (slot ∷ filter (is_from first) slots) (filter (is_from first) slots)) ≡ filter (counts first) (slot ∷ slots)) [
      | true ↦ λ is. ap (λ l. cond (counts first slot) (slot ∷ l) l) (range_counts first slots)
      | false ↦ λ is.
          let before : starts_with nat_eq slot.0 first ≡ false = below first slot.0 (sym (is_from-after first slot) ∙ is) in
          range_counts first slots ∙ ap (λ b. cond (b && is_some slot.1) (slot ∷ filter (counts first) slots) (filter (counts first) slots)) (sym before)
    ] refl

later_not : (first key : List ℕ) (slots : Slots) → starts_with nat_eq key first ≡ false → is_le (slice_cmp nat_cmp first key) ≡ true → AllByRecursion (λ (later : List ℕ × Option Value). slice_cmp nat_cmp key later.0 ≡ Less) slots → filter (counts first) slots ≡ []
later_not first key [] other after all = refl
later_not first key (slot ∷ slots) other after all =
    ap (λ b. cond (b && is_some slot.1) (slot ∷ filter (counts first) slots) (filter (counts first) slots)) (beyond first key slot.0 other after all.0)
    ∙ later_not first key slots other after all.1

-- where one doesn't begin so, none from it on counts
pub none_counts : (first : List ℕ) (slot : List ℕ × Option Value) (slots : Slots) → Ascends first (slot ∷ slots) → starts_with nat_eq slot.0 first ≡ false → filter (counts first) (slot ∷ slots) ≡ []
unfolding Ascends
none_counts first slot slots ascends other =
    ap (λ b. cond (b && is_some slot.1) (slot ∷ filter (counts first) slots) (filter (counts first) slots)) other
    ∙ later_not first slot.0 slots other ascends.0 ascends.1

one_more : (n : ℕ) → 1 + n ≡ suc n
one_more n = omega arith

no_more : (n : ℕ) → 0 + n ≡ n
no_more n = omega arith

-- one that begins so counts where it has something
pub one_counts : (first : List ℕ) (slot : List ℕ × Option Value) (slots : Slots) → begins_with first slot.0 ≡ true → from_bool (is_some slot.1) + length (filter (counts first) slots) ≡ length (filter (counts first) (slot ∷ slots))
one_counts first slot slots begins =
    let counted = filter (counts first) slots in
    elim (is_some slot.1) as (λ some. from_bool some + length counted ≡ length (cond some (slot ∷ counted) counted)) [
      | true ↦ one_more (length counted)
      | false ↦ no_more (length counted)
    ]
    ∙ ap (λ b. length (cond (b && is_some slot.1) (slot ∷ counted) counted)) (sym begins)

pub one_at_most : (b : Bool) → from_bool b ≤ 1
one_at_most true = omega arith
one_at_most false = omega arith

pub capped_over : (number rest total most : ℕ) → number + rest ≡ total → most < number → number ≤ most + 1 → number ≡ min total (most + 1)
capped_over number rest total most sum over within = grind (arith, sum, over, within)

pub capped_under : (number total most : ℕ) → number ≡ total → number ≤ most + 1 → number ≡ min total (most + 1)
capped_under number total most is within = grind (arith, is, within)

-- what is left behind the first of the rest
pub Ascends-rest : (first : List ℕ) (slot : List ℕ × Option Value) (slots : Slots) → Ascends first (slot ∷ slots) → Ascends first slots
unfolding Ascends
Ascends-rest first slot slots ascends = ascends.2

-- a key that comes before those of all slots has none
pub no_slot : (key : List ℕ) (slots : Slots) → AllByRecursion (λ later. slice_cmp nat_cmp key later ≡ Less) (keys_of slots) → is_some (slot_at slots key) ≡ false
no_slot key [] later = refl
no_slot key (slot ∷ slots) later = ap (λ order. is_some (cond (is_eq order) (Some slot.1) (slot_at slots key))) later.0 ∙ no_slot key slots later.1

-- the keys that begin so are those of the slots that count
pub number_with-slots : (prefix : List ℕ) (slots : Slots) → IsStrictlySortedBy (slice_cmp nat_cmp) (keys_of slots) → number_with prefix (database_of slots) ≡ length (filter (counts prefix) slots)
unfolding IsStrictlySortedBy
number_with-slots prefix [] sorted = number_with-empty prefix
number_with-slots prefix (slot ∷ slots) sorted =
    let database = database_of slots in
    let begins = begins_with prefix slot.0 in
    let counted = filter (counts prefix) slots in
    let before = begins && is_some (value_at database slot.0) in
    let none : before ≡ false = ap (λ found. begins && is_some found) (database_of-no_slot slots slot.0 (no_slot slot.0 slots sorted.0)) ∙ and_none begins in
    let nothing : cond before 1 0 ≡ 0 = ap (λ (b : Bool). cond {A = ℕ} b 1 0) none in
    let rest = number_with-slots prefix slots sorted.1 in
    elim (begins && is_some slot.1) as (λ one. number_with prefix (changed slot.0 slot.1 database) + cond before 1 0 ≡ number_with prefix database + cond one 1 0 → number_with prefix (changed slot.0 slot.1 database) ≡ length (cond one (slot ∷ counted) counted)) [
      | true ↦ λ sum. omega (arith, sum, nothing, rest)
      | false ↦ λ sum. omega (arith, sum, nothing, rest)
    ] (number_with-changed prefix slot.0 slot.1 database)

-- no more keys begin so than there are slots
pub number_with-within : (prefix : List ℕ) (slots : Slots) → number_with prefix (database_of slots) ≤ length slots
number_with-within prefix [] = omega (arith, number_with-empty prefix)
number_with-within prefix (slot ∷ slots) =
    let database = database_of slots in
    let begins = begins_with prefix slot.0 in
    let before = begins && is_some (value_at database slot.0) in
    let rest = number_with-within prefix slots in
    elim (begins && is_some slot.1) as (λ one. number_with prefix (changed slot.0 slot.1 database) + cond before 1 0 ≡ number_with prefix database + cond one 1 0 → number_with prefix (changed slot.0 slot.1 database) ≤ length (slot ∷ slots)) [
      | true ↦ λ sum. omega (arith, sum, rest)
      | false ↦ λ sum. omega (arith, sum, rest)
    ] (number_with-changed prefix slot.0 slot.1 database)
