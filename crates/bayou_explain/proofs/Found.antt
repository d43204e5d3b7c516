-- A search line by line: what holds of the first ones.
use Rattle.std.proofs.Common.{◌≡◌, ℕ, ◌+◌, ◌<◌, ◌≤◌, List, [], ◌∷◌, ◌++◌, Bool, Option, Some, true, false, length, get_or, take, All, ap, sym, ◌∙◌, subst}
use Rattle.std.proofs.lemmas.List.{take_all, take_more}
use Rattle.std.proofs.lemmas.List.Elements.{All-push}
use Rattle.bayou_text.specs.Said.{Said, audit_said}
use Rattle.bayou_explain.specs.declared.explained.ShownLine.{ShownLine}
use Rattle.bayou_explain.specs.declared.line.Located.{Located}
use Rattle.bayou_explain.specs.Explained.{IsFound, IsOfLine}

pub all_taken : {X : Type 0} (P : X → Type 0) (xs : List X) (k : ℕ) → length xs ≤ k → All P (take k xs) → All P xs
all_taken P xs k past all = subst (All P) (take_all k xs past) all

pub all_more : {X : Type 0} (P : X → Type 0) (xs : List X) (k : ℕ) (x : X) → k < length xs → x ≡ get_or xs k x → P x → All P (take k xs) → All P (take (k + 1) xs)
all_more P xs k x within is here all = subst (All P) (sym (take_more xs k x within ∙ ap (λ y. take k xs ++ y ∷ []) (sym is))) (All-push P (take k xs) x all here)

-- the line that was come to tells it
pub found_here : (lines : List Located) (k : ℕ) (line : Located) (Tells : Said → Type 0) (shown : ShownLine) → k < length lines → line ≡ get_or lines k line
    → Tells (audit_said line.told) → IsOfLine line shown → IsFound lines Tells (Some shown)
found_here lines k line Tells shown within is tells of = (line, (k, within, sym is), tells, of)

-- a test that failed
pub not_told : {A : Type 0} → (A → false ≡ true) → ¬ A
not_told denies it = let is = denies it in absurd (cc)
