-- Lists and machines, with one place changed.
use Rattle.std.proofs.Common.{◌≡◌, ◌≢◌, inl, inr, ◌⊎◌, ℕ, zero, suc, ◌<◌, true, false, cond, ◌==◌, List, [], ◌∷◌, ◌++◌, None, Some, length, ap, refl, arith}
use Rattle.std.specs.List.{slice_get, slice_index_or, slice_set}
use Rattle.std.proofs.lemmas.Bool.{cases_lt}
use Rattle.std.proofs.lemmas.Bool.Decides.{nat_tests}
use Rattle.bayou_world.specs.Machine.{changed}

pub changed-same : {A : Type 0} (each : ℕ → A) (number : ℕ) (new : A) → changed each number new number ≡ new
changed-same {A} each number new =
    let is : (number == number) ≡ true = grind (arith, nat_tests) in
    ap (λ t. cond t new (each number)) is

pub changed-other : {A : Type 0} (each : ℕ → A) (number : ℕ) (new : A) (other : ℕ) → other ≢ number → changed each number new other ≡ each other
changed-other {A} each number new other differs =
    let isnt : (other == number) ≡ false = elim (other == number) as (λ t. (other == number) ≡ t → t ≡ false) [
      | true ↦ λ is. absurd (differs (grind (arith, nat_tests)))
      | false ↦ λ e. refl
    ] refl in
    ap (λ t. cond t new (each other)) isnt

-- one of two numbers
pub same_number : (a b : ℕ) → (a ≡ b) ⊎ (a ≢ b)
same_number a b = elim (cases_lt a b) as (λ _. (a ≡ b) ⊎ (a ≢ b)) [
  | inl less ↦ inr (λ same. absurd (omega (arith, less, same)))
  | inr not_less ↦ elim (cases_lt b a) as (λ _. (a ≡ b) ⊎ (a ≢ b)) [
    | inl less ↦ inr (λ same. absurd (omega (arith, less, same)))
    | inr not_more ↦ inl (omega (arith, not_less, not_more))
  ]
]

pub some_of : {X : Type 0} (x y : X) → Some x ≡ Some y → x ≡ y
some_of x y same = let one : x ≡ y = cc in one

pub no_some : {X : Type 0} {Y : Type 0} (x : X) → None ≡ Some x → Y
no_some x none = absurd (cc)

-- ---- a list in which one place is set

pub get-set_same : {X : Type 0} (xs : List X) (at : ℕ) (x : X) → at < length xs → slice_get (slice_set xs at x) at ≡ Some x
get-set_same [] at x within = absurd (omega (arith, within))
get-set_same (first ∷ xs) zero x within = refl
get-set_same (first ∷ xs) (suc at) x within = get-set_same xs at x (omega (arith, within))

pub get-set_other : {X : Type 0} (xs : List X) (at : ℕ) (x : X) (other : ℕ) → other ≢ at → slice_get (slice_set xs at x) other ≡ slice_get xs other
get-set_other [] at x other differs = refl
get-set_other (first ∷ xs) zero x zero differs = absurd (differs refl)
get-set_other (first ∷ xs) zero x (suc other) differs = refl
get-set_other (first ∷ xs) (suc at) x zero differs = refl
get-set_other (first ∷ xs) (suc at) x (suc other) differs = get-set_other xs at x other (λ same. differs (ap (λ n. suc n) same))

pub index-set_same : {X : Type 0} (xs : List X) (at : ℕ) (x d : X) → at < length xs → slice_index_or (slice_set xs at x) at d ≡ x
index-set_same [] at x d within = absurd (omega (arith, within))
index-set_same (first ∷ xs) zero x d within = refl
index-set_same (first ∷ xs) (suc at) x d within = index-set_same xs at x d (omega (arith, within))

pub index-set_other : {X : Type 0} (xs : List X) (at : ℕ) (x d : X) (other : ℕ) → other ≢ at → slice_index_or (slice_set xs at x) other d ≡ slice_index_or xs other d
index-set_other [] at x d other differs = refl
index-set_other (first ∷ xs) zero x d zero differs = absurd (differs refl)
index-set_other (first ∷ xs) zero x d (suc other) differs = refl
index-set_other (first ∷ xs) (suc at) x d zero differs = refl
index-set_other (first ∷ xs) (suc at) x d (suc other) differs = index-set_other xs at x d other (λ same. differs (ap (λ n. suc n) same))

pub length-set_it : {X : Type 0} (xs : List X) (at : ℕ) (x : X) → length (slice_set xs at x) ≡ length xs
length-set_it [] at x = refl
length-set_it (first ∷ xs) zero x = refl
length-set_it (first ∷ xs) (suc at) x = ap (λ n. suc n) (length-set_it xs at x)

pub get_within : {X : Type 0} (xs : List X) (at : ℕ) (x : X) → slice_get xs at ≡ Some x → at < length xs
get_within [] at x got = no_some x got
get_within (first ∷ xs) zero x got = omega arith
get_within (first ∷ xs) (suc at) x got = omega (arith, get_within xs at x got)

pub get-append_left : {X : Type 0} (xs ys : List X) (at : ℕ) (x : X) → slice_get xs at ≡ Some x → slice_get (xs ++ ys) at ≡ Some x
get-append_left [] ys at x got = no_some x got
get-append_left (first ∷ xs) ys zero x got = got
get-append_left (first ∷ xs) ys (suc at) x got = get-append_left xs ys at x got

pub get-append_here : {X : Type 0} (xs ys : List X) (x : X) → slice_get (xs ++ x ∷ ys) (length xs) ≡ Some x
get-append_here [] ys x = refl
get-append_here (first ∷ xs) ys x = get-append_here xs ys x

-- a list that has one isn't empty
pub none_behind : {X : Type 0} {Y : Type 0} (xs ys : List X) (x : X) → [] ≡ xs ++ x ∷ ys → Y
none_behind [] ys x same = absurd (cc)
none_behind (first ∷ xs) ys x same = absurd (cc)
