-- What is said of words that are lent is said of their texts.
use Rattle.std.proofs.Common.{◌≡◌, ◌∙◌, ℕ, List, Option, None, Some, Result, length, map, refl, subst, sym}
use Rattle.std.proofs.lemmas.List.{length-map}
use Rattle.std.specs.Option.{option_copied}
use Rattle.std.specs.Prelude.{MatchResult, option_map}
use denote.Ref.{Bor}
use Rattle.bayou_export.specs.Words.{IsPlanOf, Refuses}
use Rattle.bayou_export.specs.declared.plan.ExportPlan.{ExportPlan}
use Rattle.bayou_export.specs.declared.plan.ExportPlanFault.{ExportPlanFault}

pub copied : (text : Option (Bor (List ℕ))) → option_copied text ≡ option_map (λ text. text.now) text
copied None = refl
copied (Some text) = refl

abbrev answers : Result ExportPlan ExportPlanFault → ℕ → Option ℕ → (key folder : Option (List ℕ)) → Option ℕ → Option (List ℕ) → Type 0
answers result servers count key folder id prefix = MatchResult result (IsPlanOf servers count key folder id prefix) (Refuses servers count key folder id prefix)

-- the plan of words, or why they make none
pub wanted_of : (words : List (Bor (List ℕ))) (servers : ℕ) (count : Option ℕ) (key folder : Option (Bor (List ℕ))) (id : Option ℕ) (prefix : Option (Bor (List ℕ))) (result : Result ExportPlan ExportPlanFault)
    → servers ≡ length words → answers result servers count (option_copied key) (option_copied folder) id (option_copied prefix)
    → answers result (length (map (λ word. word.now) words)) count (option_map (λ text. text.now) key) (option_map (λ text. text.now) folder) id (option_map (λ text. text.now) prefix)
wanted_of words servers count key folder id prefix result number is =
    let named : servers ≡ length (map (λ word. word.now) words) = number ∙ sym (length-map words (λ (word : Bor (List ℕ)). word.now)) in
    let first = subst (λ (n : ℕ). answers result n count (option_copied key) (option_copied folder) id (option_copied prefix)) named is in
    let second = subst (λ (k : Option (List ℕ)). answers result (length (map (λ word. word.now) words)) count k (option_copied folder) id (option_copied prefix)) (copied key) first in
    let third = subst (λ (f : Option (List ℕ)). answers result (length (map (λ word. word.now) words)) count (option_map (λ text. text.now) key) f id (option_copied prefix)) (copied folder) second in
    subst (λ (p : Option (List ℕ)). answers result (length (map (λ word. word.now) words)) count (option_map (λ text. text.now) key) (option_map (λ text. text.now) folder) id p) (copied prefix) third
