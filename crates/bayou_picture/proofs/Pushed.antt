-- Lists that grow by one.
use Rattle.std.proofs.Common.{◌≡◌, ◌∙◌, ◌+◌, ◌<◌, ◌++◌, ◌∷◌, ℕ, List, [], ap, append_assoc, get_or, length, refl, sym, take, flat_map, map}
use Rattle.std.proofs.lemmas.Grind.{flat_map-append}
use Rattle.std.proofs.lemmas.List.{append-nil, take_more}
use Rattle.bayou_explain.specs.Explained.{breaches_told}
use Rattle.bayou_picture.specs.declared.marks.Marked.{Marked}
use Rattle.bayou_picture.specs.Marks.{breaches_marked, explained_of}

pub one_more : {X : Type 0} (xs : List X) (at : ℕ) (x : X) → at < length xs → x ≡ get_or xs at x → take (at + 1) xs ≡ take at xs ++ x ∷ []
one_more xs at x within is = take_more xs at x within ∙ ap (λ y. take at xs ++ y ∷ []) (sym is)

pub flat_more : {X : Type 0} (f : X → List ℕ) (xs : List X) (at : ℕ) (x : X) → at < length xs → x ≡ get_or xs at x
    → flat_map f (take (at + 1) xs) ≡ flat_map f (take at xs) ++ f x
flat_more f xs at x within is =
    ap (flat_map f) (one_more xs at x within is) ∙ flat_map-append f (take at xs) (x ∷ []) ∙ ap (λ t. flat_map f (take at xs) ++ t) (append-nil (f x))

-- five pieces at the end
pub five : (t a b c d e : List ℕ) → ((((t ++ a) ++ b) ++ c) ++ d) ++ e ≡ t ++ (a ++ (b ++ (c ++ (d ++ e))))
five t a b c d e = simp append_assoc

-- the breaches that are marked are those of what is marked
pub marked_are_told : (list : List Marked) → breaches_marked list ≡ breaches_told (explained_of list)
marked_are_told [] = refl
marked_are_told (marked ∷ list) = ap (λ breaches. marked.explained.breach ∷ breaches) (marked_are_told list)
