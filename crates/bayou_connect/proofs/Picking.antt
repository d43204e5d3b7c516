-- What a test of the elements of a list found, as one of them.
use Rattle.std.proofs.Common.{arith, ◌≡◌, ◌<◌, ℕ, zero, suc, Bool, true, false, All, Any, IsSomeAnd, List, [], ◌∷◌, MatchBool, MatchOption, Option, None, Some, get_or, length, refl, sym}
use Rattle.std.specs.List.{AllWithin, HoldsAt, slice_get}
use Rattle.std.proofs.lemmas.Bool.{false≢true}
use Rattle.std.proofs.lemmas.List.Elements.{All-from_all_within}

-- one stands there
pub one_at : {X : Type 0} (P : X → Type 0) (xs : List X) (at : ℕ) → at < length xs → HoldsAt P xs at → Any P xs
one_at P [] at within holds = absurd (omega (arith, within))
one_at P (x ∷ xs) zero within holds = (zero, x, omega arith, refl, holds x)
one_at P (x ∷ xs) (suc at) within holds =
    let (k, one, there, is, has) = one_at P xs at (omega (arith, within)) holds in
    (suc k, one, omega (arith, there), is, has)

pub one_if_false : {X : Type 0} (No : X → Type 0) (Else : Type 0) (xs : List X) (result : Bool) → MatchBool result Else ((at : ℕ) × (at < length xs) × HoldsAt No xs at) → result ≡ false → Any No xs
one_if_false No Else xs true found is = absurd (false≢true (sym is))
one_if_false No Else xs false (at, within, holds) is = one_at No xs at within holds

pub one_if_true : {X : Type 0} (Yes : X → Type 0) (Else : Type 0) (xs : List X) (result : Bool) → MatchBool result ((at : ℕ) × (at < length xs) × HoldsAt Yes xs at) Else → result ≡ true → Any Yes xs
one_if_true Yes Else xs true (at, within, holds) is = one_at Yes xs at within holds
one_if_true Yes Else xs false found is = absurd (false≢true is)

read_at : {X : Type 0} (P : X → Type 0) (xs : List X) (at : ℕ) → at < length xs → HoldsAt P xs at → IsSomeAnd (slice_get xs at) P
read_at P [] at within holds = absurd (omega (arith, within))
read_at P (x ∷ xs) zero within holds = holds x
read_at P (x ∷ xs) (suc at) within holds = read_at P xs at (omega (arith, within)) holds

-- a place that was found, or that there is none
pub place_found : {X : Type 0} (Yes No Is : X → Type 0) → ((x : X) → Yes x → Is x) → (xs : List X) (result : Option ℕ)
    → MatchOption result (AllWithin No xs 0 (length xs)) (λ at. (at < length xs) × HoldsAt Yes xs at × AllWithin No xs 0 at)
    → MatchOption result (All No xs) (λ at. IsSomeAnd (slice_get xs at) Is)
place_found Yes No Is means xs None found = All-from_all_within No xs found
place_found Yes No Is means xs (Some at) (within, holds, others) = read_at Is xs at within (λ d. means (get_or xs at d) (holds d))
