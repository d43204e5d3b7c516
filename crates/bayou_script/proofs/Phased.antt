-- Phases that are taken one by one.
use Rattle.std.proofs.Common.{◌≡◌, ◌≢◌, if◌then◌else◌, Bool, true, false, not, List, [], ◌∷◌, ◌++◌, IsTrue, map, refl, sym, ap, ◌∙◌, append-nil}
use Rattle.std.specs.List.{list_all, onto_first}
use Rattle.std.proofs.lemmas.List.{map-append}
use Rattle.bayou_text.specs.Said.{Said}
use Rattle.bayou_script.proofs.Told.{both_left, both_right}
use Rattle.bayou_script.specs.Phases.{ends_phase, phases_of}

-- no line of them ends a phase
abbrev pub goes_on : Said → Bool
goes_on said = not (ends_phase said)

pub goes_on_is : (ends : Bool) → IsTrue (not ends) → ends ≡ false
goes_on_is true is = absurd (cc)
goes_on_is false is = refl

phases_more : (first : Said) (others : List Said) → IsTrue (goes_on first) → phases_of (first ∷ others) ≡ onto_first first (phases_of others)
phases_more first others on = ap (λ (ends : Bool). if ends then [] ∷ phases_of others else onto_first first (phases_of others)) (goes_on_is (ends_phase first) on)

-- up to a line that ends a phase
pub phase_ended : (lines : List Said) (end : Said) (left : List Said) → IsTrue (list_all goes_on lines) → ends_phase end ≡ true
    → phases_of (lines ++ end ∷ left) ≡ lines ∷ phases_of left
phase_ended [] end left all ends = ap (λ (is : Bool). if is then [] ∷ phases_of left else onto_first end (phases_of left)) ends
phase_ended (first ∷ lines) end left all ends =
    phases_more first (lines ++ end ∷ left) (both_left _ _ all) ∙ ap (onto_first first) (phase_ended lines end left (both_right _ _ all) ends)

-- up to the end
pub phase_last : (first : Said) (lines : List Said) → IsTrue (list_all goes_on (first ∷ lines)) → phases_of (first ∷ lines) ≡ (first ∷ lines) ∷ []
phase_last first [] all = phases_more first [] (both_left _ _ all)
phase_last first (next ∷ lines) all =
    phases_more first (next ∷ lines) (both_left _ _ all) ∙ ap (onto_first first) (phase_last next lines (both_right _ _ all))

-- ---- commands, by what their lines say

module _ {C : Type 0} (line : C → Said) where
  -- commands that were taken up to one that ends a phase
  pub taken_ended : (all taken : List C) (end : C) (left : List C) → all ≡ taken ++ end ∷ left → IsTrue (list_all goes_on (map line taken))
      → ends_phase (line end) ≡ true → phases_of (map line all) ≡ map line taken ∷ phases_of (map line left)
  taken_ended all taken end left is on ends =
      ap (λ (l : List C). phases_of (map line l)) is ∙ ap phases_of (map-append line taken (end ∷ left))
      ∙ phase_ended (map line taken) (line end) (map line left) on ends

  -- and all that there are
  pub taken_last : (all taken left : List C) → all ≡ taken ++ left → left ≡ [] → all ≢ [] → IsTrue (list_all goes_on (map line taken))
      → phases_of (map line all) ≡ map line taken ∷ phases_of (map line left)
  taken_last all [] left is none some on = absurd (some (is ∙ none))
  taken_last all (first ∷ taken) left is none some on =
      ap (λ (l : List C). phases_of (map line l)) (is ∙ ap (λ (l : List C). (first ∷ taken) ++ l) none ∙ append-nil (first ∷ taken))
      ∙ phase_last (line first) (map line taken) on
      ∙ ap (λ (l : List C). map line (first ∷ taken) ∷ phases_of (map line l)) (sym none)
