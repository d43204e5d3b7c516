-- Texts, one after another.
use Rattle.std.proofs.Common.{◌≡◌, ◌∙◌, ◌+◌, ◌<◌, ℕ, List, [], ◌∷◌, ◌++◌, ap, get_or, length, sym, take}
use Rattle.std.proofs.lemmas.Grind.{flat_map-append}
use Rattle.std.proofs.lemmas.List.{append-nil, take_more}
use Rattle.std.proofs.lemmas.List.Concat.{flat_map-cons}
use Rattle.std.specs.List.{flat_map}

-- the text of one more stands after those of the others
pub flat_more : {X : Type 0} (text : X → List ℕ) (xs : List X) (at : ℕ) (x : X) → at < length xs → x ≡ get_or xs at x
    → flat_map text (take (at + 1) xs) ≡ flat_map text (take at xs) ++ text x
flat_more {X} text xs at x within is =
    ap (flat_map text) (take_more xs at x within ∙ ap (λ (y : X). take at xs ++ y ∷ []) (sym is)) ∙ flat_map-append text (take at xs) (x ∷ [])
    ∙ ap (λ (more : List ℕ). flat_map text (take at xs) ++ more) (flat_map-cons text x [] ∙ append-nil (text x))
