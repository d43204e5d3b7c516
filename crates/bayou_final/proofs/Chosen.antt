-- A view that is chosen is one by which its server had made no more.
use Rattle.std.proofs.Common.{◌≡◌, ◌≤◌, ◌∙◌, ℕ, true, false, List, Option, None, Some, ap, cond, nat_le, refl, slice_index, sym, arith}
use Rattle.std.proofs.lemmas.Bool.Decides.{nat_tests}
use Rattle.bayou_base.specs.declared.limits.TheConstants.{SERVERS}
use Rattle.bayou_final.specs.Known.{CountOwn}
use Rattle.bayou_final.specs.Views.{AreChosen, AreHeard, either, within}

-- a view within the vector is counted by it
counted : (vector : List ℕ) (place : ℕ) (heard : Option (List ℕ)) (view : List ℕ) → within vector place heard ≡ Some view → slice_index view place ≤ slice_index vector place
counted vector place None view is = absurd (cc)
counted vector place (Some found) view is = elim (nat_le (slice_index found place) (slice_index vector place)) as
    (λ t. nat_le (slice_index found place) (slice_index vector place) ≡ t → cond t (Some found) None ≡ Some view → slice_index view place ≤ slice_index vector place) [
      | true ↦ λ low same. grind (arith, nat_tests)
      | false ↦ λ low same. absurd (cc)
    ] refl is

one_of : (vector : List ℕ) (place : ℕ) (one other : Option (List ℕ)) (view : List ℕ) → either (within vector place one) (within vector place other) ≡ Some view → slice_index view place ≤ slice_index vector place
one_of vector place one other view is = elim (within vector place one) as
    (λ o. within vector place one ≡ o → either o (within vector place other) ≡ Some view → slice_index view place ≤ slice_index vector place) [
      | None ↦ λ none same. counted vector place other view same
      | Some first ↦ λ some same. counted vector place one view (some ∙ same)
    ] refl is

some_of : Option (Option (List ℕ)) → Option (List ℕ)
some_of None = None
some_of (Some heard) = heard

pub own_is_counted : (count : ℕ) (vector : List ℕ) (heard others chosen : List (Option (List ℕ))) (views : ℕ → List ℕ) → count ≤ SERVERS → AreChosen vector heard others chosen → AreHeard count chosen views → CountOwn count views vector
unfolding some_of
own_is_counted count vector heard others chosen views few are told place among =
    one_of vector place _ _ (views place) (ap some_of (sym (are place (omega (arith, few, among))) ∙ told place among))
