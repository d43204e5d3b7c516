-- An element that is taken out of a list, and another that is put in its place.
use Rattle.std.proofs.Common.{arith, ◌≡◌, ◌∙◌, ◌<◌, ℕ, zero, suc, List, [], ◌∷◌, MatchOption, Option, Some, ap, get_or, insert, length, refl, remove, set, slice_get, subst, sym}
use Rattle.std.proofs.lemmas.Option.{slice_get_read}

pub put_back : {X : Type 0} (xs : List X) (at : ℕ) (x : X) → at < length xs → insert (remove xs at) at x ≡ set xs at x
put_back {X} [] at x within = absurd (omega (arith, within))
put_back {X} (y ∷ ys) zero x within = refl
put_back {X} (y ∷ ys) (suc at) x within = ap (λ (list : List X). y ∷ list) (put_back ys at x (omega (arith, within)))

-- what was taken became something else, which was put back
pub opens_one : {X : Type 0} (Becomes : X → X → Type 0) (xs new : List X) (at who : ℕ) (was now : X) → at ≡ who → at < length xs → was ≡ get_or xs at was → Becomes was now
    → new ≡ insert (remove xs at) at now → MatchOption (slice_get xs who) (new ≡ xs) (λ old. (y : X) × Becomes old y × (new ≡ set xs who y))
opens_one {X} Becomes xs new at who was now here within read becomes put =
    let there : slice_get xs who ≡ Some was = ap (λ (n : ℕ). slice_get xs n) (sym here) ∙ slice_get_read xs (length xs) at was refl within read in
    subst (λ (o : Option X). MatchOption o (new ≡ xs) (λ old. (y : X) × Becomes old y × (new ≡ set xs who y))) (sym there)
    (now, becomes, put ∙ put_back xs at now within ∙ ap (λ (n : ℕ). set xs n now) here)
