-- The greatest run of a list of tags, with one more entry.
use Rattle.std.proofs.Common.{◌≡◌, ℕ, ◌≤◌, ◌⊎◌, inl, inr, true, false, max, nat_lt, List, [], ◌∷◌, ◌++◌, Option, Some, None, IfSome, Contains, refl, subst, arith}
use Rattle.std.proofs.lemmas.Bool.Decides.{nat_tests}
use Rattle.std.proofs.lemmas.List.Elements.{All-push, All-weaker, Contains-append_left, Contains-push}
use Rattle.bayou_base.specs.declared.tag.Tag.{Tag}
use Rattle.bayou_tags.specs.Tags.{IsGreatestRun}

-- no tag of the entry has a greater run
abbrev AtMost : ℕ → Option Tag → Type 0
AtMost run entry = IfSome entry (λ tag. tag.run ≤ run)

raised : (run more : ℕ) → run ≤ more → (entry : Option Tag) → AtMost run entry → AtMost more entry
raised run more within None at = tt
raised run more within (Some tag) at = omega (arith, within, at)

reached_still : (tags : List (Option Tag)) (entry : Option Tag) (run : ℕ)
    → (run ≡ 0) ⊎ ((tag : Tag) × Contains tags (Some tag) × (tag.run ≡ run)) → (run ≡ 0) ⊎ ((tag : Tag) × Contains (tags ++ entry ∷ []) (Some tag) × (tag.run ≡ run))
reached_still tags entry run (inl none) = inl none
reached_still tags entry run (inr found) = inr (found.0, Contains-append_left tags (entry ∷ []) (Some found.0) found.1, found.2)

pub IsGreatestRun-push_none : (tags : List (Option Tag)) (run : ℕ) → IsGreatestRun tags run → IsGreatestRun (tags ++ None ∷ []) run
IsGreatestRun-push_none tags run is = record {
  greatest = All-push (AtMost run) tags None is.greatest tt;
  reached = reached_still tags None run is.reached;
}

pub IsGreatestRun-push_some : (tags : List (Option Tag)) (run : ℕ) (tag : Tag) → IsGreatestRun tags run → IsGreatestRun (tags ++ Some tag ∷ []) (max run tag.run)
IsGreatestRun-push_some tags run tag is = record {
  greatest = All-push (AtMost (max run tag.run)) tags (Some tag)
      (All-weaker (AtMost run) (AtMost (max run tag.run)) (raised run (max run tag.run) (omega arith)) tags is.greatest) (omega arith);
  reached =
      let Reached : ℕ → Type 0 = λ n. (n ≡ 0) ⊎ ((one : Tag) × Contains (tags ++ Some tag ∷ []) (Some one) × (one.run ≡ n)) in
      elim (nat_lt run tag.run) as (λ t. nat_lt run tag.run ≡ t → Reached (max run tag.run)) [
        | true ↦ λ more.
            let own : tag.run ≡ max run tag.run = grind (arith, nat_tests) in
            inr (tag, Contains-push tags (Some tag), own)
        | false ↦ λ not_more.
            let before : run ≡ max run tag.run = grind (arith, nat_tests) in
            subst Reached before (reached_still tags (Some tag) run is.reached)
      ] refl;
}
