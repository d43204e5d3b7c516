-- Lists, and what they have.
use Rattle.std.proofs.Common.{◌≡◌, ◌≢◌, inl, inr, ◌⊎◌, ℕ, zero, suc, ◌<◌, Bool, true, false, cond, ◌==◌, List, [], ◌∷◌, ◌++◌, map, length, get_or, filter, AllPairs, Contains, ap, sym, ◌∙◌, refl, subst, arith}
use Rattle.std.proofs.lemmas.Bool.{cases_lt}
use Rattle.std.proofs.lemmas.Bool.Decides.{nat_tests}
use Rattle.std.proofs.lemmas.List.{get_or_default, get_or-map, length-map}
use Rattle.bayou_world.specs.Machine.{changed}

-- what a list has stands between a front and a rest of it
pub split_at : {X : Type 0} (xs : List X) (x : X) → Contains xs x → (before after : List X) × (xs ≡ before ++ x ∷ after)
split_at [] x (k, within, is) = absurd (omega (arith, within))
split_at (first ∷ xs) x (zero, within, is) = ([], xs, ap (λ y. y ∷ xs) is)
split_at (first ∷ xs) x (suc k, within, is) =
    let rest = split_at xs x (k, omega (arith, within), is) in (first ∷ rest.0, rest.1, ap (λ ys. first ∷ ys) rest.2)

pub Contains-here : {X : Type 0} (x : X) (xs : List X) → Contains (x ∷ xs) x
Contains-here x xs = (0, omega arith, refl)

pub Contains-later : {X : Type 0} (first : X) (xs : List X) (x : X) → Contains xs x → Contains (first ∷ xs) x
Contains-later first xs x (k, within, is) = (suc k, omega (arith, within), is)

pub Contains-map : {X Y : Type 0} (f : X → Y) (xs : List X) (x : X) → Contains xs x → Contains (map f xs) (f x)
Contains-map f [] x (k, within, is) = absurd (omega (arith, within))
Contains-map f (first ∷ xs) x (zero, within, is) = (0, omega arith, ap f is)
Contains-map f (first ∷ xs) x (suc k, within, is) = Contains-later (f first) (map f xs) (f x) (Contains-map f xs x (k, omega (arith, within), is))

pub Contains-map_from : {X Y : Type 0} (f : X → Y) (xs : List X) (y : Y) → Contains (map f xs) y → (x : X) × Contains xs x × (f x ≡ y)
Contains-map_from f [] y (k, within, is) = absurd (omega (arith, within))
Contains-map_from f (first ∷ xs) y (zero, within, is) = (first, Contains-here first xs, is)
Contains-map_from f (first ∷ xs) y (suc k, within, is) =
    let rest = Contains-map_from f xs y (k, omega (arith, within), is) in (rest.0, Contains-later first xs rest.0 rest.1, rest.2)

-- nothing is in the empty list
pub Contains-none : {X : Type 0} (x : X) → Contains [] x → ⊥
Contains-none x (k, within, is) = absurd (omega (arith, within))

-- the same but for one number: what is true of the new one, and of each old one, is true of each
pub at_changed : {A : Type 0} (P : ℕ → A → Type 0) (each : ℕ → A) (number : ℕ) (new : A) → P number new → ((other : ℕ) → P other (each other))
    → (other : ℕ) → P other (changed each number new other)
at_changed {A} P each number new here others other =
    elim (other == number) as (λ t. (other == number) ≡ t → P other (cond t new (each other))) [
      | true ↦ λ is.
          let same : other ≡ number = grind (arith, nat_tests) in subst (λ n. P n new) (sym same) here
      | false ↦ λ isnt. others other
    ] refl

pub changed-same : {A : Type 0} (each : ℕ → A) (number : ℕ) (new : A) → changed each number new number ≡ new
changed-same {A} each number new =
    let is : (number == number) ≡ true = grind (arith, nat_tests) in
    ap (λ t. cond t new (each number)) is

pub changed-other : {A : Type 0} (each : ℕ → A) (number : ℕ) (new : A) (other : ℕ) → other ≢ number → changed each number new other ≡ each other
changed-other {A} each number new other differs =
    let isnt : (other == number) ≡ false = elim (other == number) as (λ t. (other == number) ≡ t → t ≡ false) [
      | true ↦ λ is. absurd (differs (grind (arith, nat_tests)))
      | false ↦ λ e. refl
    ] refl in
    ap (λ t. cond t new (each other)) isnt

-- one of two numbers
pub same_number : (a b : ℕ) → (a ≡ b) ⊎ (a ≢ b)
same_number a b = elim (cases_lt a b) as (λ _. (a ≡ b) ⊎ (a ≢ b)) [
  | inl less ↦ inr (λ same. absurd (omega (arith, less, same)))
  | inr not_less ↦ elim (cases_lt b a) as (λ _. (a ≡ b) ⊎ (a ≢ b)) [
    | inl less ↦ inr (λ same. absurd (omega (arith, less, same)))
    | inr not_more ↦ inl (omega (arith, not_less, not_more))
  ]
]

-- where some property of each two elements fails for elements of one name, a name stands once
pub one_of_name : {X Y : Type 0} (name : X → Y) (xs : List X) (a b : X) → AllPairs (λ x y. name x ≢ name y) xs → Contains xs a → Contains xs b → name a ≡ name b → a ≡ b
one_of_name name xs a b distinct (i, within_i, is_i) (j, within_j, is_j) same =
    let at_j : get_or xs j a ≡ b = get_or_default xs j a b within_j ∙ is_j in
    elim (cases_lt i j) as (λ _. a ≡ b) [
      | inl less ↦ absurd (distinct i j a less within_j (ap name is_i ∙ same ∙ sym (ap name at_j)))
      | inr not_less ↦ elim (cases_lt j i) as (λ _. a ≡ b) [
        | inl less ↦ absurd (distinct j i a less within_i (ap name at_j ∙ sym same ∙ sym (ap name is_i)))
        | inr not_more ↦
            let one : i ≡ j = omega (arith, not_less, not_more) in sym is_i ∙ ap (λ k. get_or xs k a) one ∙ at_j
      ]
    ]

-- the same of the elements whose images are distinct
pub AllPairs-map : {X Y : Type 0} (R : Y → Y → Type 0) (f : X → Y) (xs : List X) → AllPairs R (map f xs) → AllPairs (λ x y. R (f x) (f y)) xs
AllPairs-map R f xs all i j d less within =
    let within_map : j < length (map f xs) = omega (arith, within, length-map xs f) in
    let at_i : get_or (map f xs) i (f d) ≡ f (get_or xs i d) = get_or-map f xs i d (f d) (omega (arith, less, within)) in
    let at_j : get_or (map f xs) j (f d) ≡ f (get_or xs j d) = get_or-map f xs j d (f d) within in
    subst (λ y. R (f (get_or xs i d)) y) at_j (subst (λ x. R x (get_or (map f xs) j (f d))) at_i (all i j (f d) less within_map))

-- a filter keeps what passes, and nothing else
pub Contains-filter : {X : Type 0} (p : X → Bool) (xs : List X) (x : X) → Contains xs x → p x ≡ true → Contains (filter p xs) x
Contains-filter p [] x (k, within, is) passes = absurd (omega (arith, within))
Contains-filter {X} p (first ∷ xs) x (zero, within, is) passes =
    let passed : p first ≡ true = ap p is ∙ passes in
    subst (λ t. Contains (cond t (first ∷ filter p xs) (filter p xs)) x) (sym passed) (0, omega arith, is)
Contains-filter {X} p (first ∷ xs) x (suc k, within, is) passes =
    let rest = Contains-filter p xs x (k, omega (arith, within), is) passes in
    elim (p first) as (λ t. Contains (cond t (first ∷ filter p xs) (filter p xs)) x) [
      | true ↦ Contains-later first (filter p xs) x rest
      | false ↦ rest
    ]

pub Contains-from_filter : {X : Type 0} (p : X → Bool) (xs : List X) (x : X) → Contains (filter p xs) x → Contains xs x × (p x ≡ true)
Contains-from_filter p [] x (k, within, is) = absurd (omega (arith, within))
Contains-from_filter {X} p (first ∷ xs) x has =
    elim (p first) as (λ t. p first ≡ t → Contains (cond t (first ∷ filter p xs) (filter p xs)) x → Contains (first ∷ xs) x × (p x ≡ true)) [
      | true ↦ λ passed. λ has. from_cons (filter p xs) passed (λ later. Contains-from_filter p xs x later) has
      | false ↦ λ failed. λ has. let rest = Contains-from_filter p xs x has in (Contains-later first xs x rest.0, rest.1)
    ] refl has
  where
    from_cons : (kept : List X) → p first ≡ true → (Contains kept x → Contains xs x × (p x ≡ true)) → Contains (first ∷ kept) x → Contains (first ∷ xs) x × (p x ≡ true)
    from_cons kept passed go (zero, within, is) = ((0, omega arith, is), ap p (sym is) ∙ passed)
    from_cons kept passed go (suc k, within, is) = let rest = go (k, omega (arith, within), is) in (Contains-later first xs x rest.0, rest.1)
