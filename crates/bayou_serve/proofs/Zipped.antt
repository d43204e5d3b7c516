-- Two lists, place by place.
use Rattle.std.proofs.Common.{◌≡◌, ℕ, zero, suc, ◌+◌, ◌<◌, List, [], ◌∷◌, ◌++◌, length, get_or, take, arith}
use Rattle.std.specs.List.{AllZip}
use Rattle.std.proofs.lemmas.List.{take_more}

zip_push : {A B : Type 0} (R : A → B → Type 0) (xs : List A) (ys : List B) (x : A) (y : B) → AllZip R xs ys → R x y → AllZip R (xs ++ x ∷ []) (ys ++ y ∷ [])
zip_push R [] [] x y all one = (one, tt)
zip_push R [] (b ∷ ys) x y all one = absurd all
zip_push R (a ∷ xs) [] x y all one = absurd all
zip_push R (a ∷ xs) (b ∷ ys) x y (first, all) one = (first, zip_push R xs ys x y all one)

-- up to one place more
pub zip_more : {A B : Type 0} (R : A → B → Type 0) (xs : List A) (at : ℕ) (d : A) (ys more : List B) (y : B) → AllZip R (take at xs) ys → at < length xs → more ≡ ys ++ y ∷ [] → R (get_or xs at d) y
    → AllZip R (take (at + 1) xs) more
zip_more R xs at d ys more y all within is one = rw (is, take_more xs at d within) (zip_push R (take at xs) ys (get_or xs at d) y all one)

-- at one place
pub zip_at : {A B : Type 0} (R : A → B → Type 0) (xs : List A) (ys : List B) (at : ℕ) (d : A) (e : B) → AllZip R xs ys → at < length ys → R (get_or xs at d) (get_or ys at e)
zip_at R [] [] at d e all within = absurd (omega (arith, within))
zip_at R [] (y ∷ ys) at d e all within = absurd all
zip_at R (x ∷ xs) [] at d e all within = absurd all
zip_at R (x ∷ xs) (y ∷ ys) zero d e all within = all.0
zip_at R (x ∷ xs) (y ∷ ys) (suc at) d e all within = zip_at R xs ys at d e all.1 (omega (arith, within))
