-- Two lists, place by place.
use Rattle.std.proofs.Common.{◌≡◌, ◌<◌, ◌+◌, ℕ, suc, List, [], ◌∷◌, ◌++◌, ap, get_or, length, refl, take}
use Rattle.std.proofs.lemmas.List.{take_more}
use Rattle.std.specs.List.{AllZip}

pub AllZip-push : {A B : Type 0} (R : A → B → Type 0) (xs : List A) (ys : List B) (x : A) (y : B) → AllZip R xs ys → R x y → AllZip R (xs ++ x ∷ []) (ys ++ y ∷ [])
AllZip-push R [] [] x y all one = (one, tt)
AllZip-push R [] (b ∷ ys) x y all one = absurd all
AllZip-push R (a ∷ xs) [] x y all one = absurd all
AllZip-push R (a ∷ xs) (b ∷ ys) x y (first, all) one = (first, AllZip-push R xs ys x y all one)

pub AllZip-length : {A B : Type 0} (R : A → B → Type 0) (xs : List A) (ys : List B) → AllZip R xs ys → length xs ≡ length ys
AllZip-length R [] [] all = refl
AllZip-length R [] (b ∷ ys) all = absurd all
AllZip-length R (a ∷ xs) [] all = absurd all
AllZip-length R (a ∷ xs) (b ∷ ys) (first, all) = ap suc (AllZip-length R xs ys all)

-- one more of each
pub AllZip-more : {A B : Type 0} (R : A → B → Type 0) (xs : List A) (new : List A) (x : A) (ys : List B) (at : ℕ) (y : B) → AllZip R xs (take at ys)
    → new ≡ xs ++ x ∷ [] → at < length ys → y ≡ get_or ys at y → R x y → AllZip R new (take (at + 1) ys)
AllZip-more R xs new x ys at y all is within there one =
    rw (is, take_more ys at y within, ← there) (AllZip-push R xs (take at ys) x y all one)
