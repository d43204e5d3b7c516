-- The counts of a vector that are told.
use Rattle.std.proofs.Common.{◌≡◌, ℕ, zero, suc, ◌-◌, ◌<◌, ◌≤◌, List, [], ◌∷◌, ◌++◌, length, take, drop, get_or, replicate, refl, sym, ap, ◌∙◌, arith}
use Rattle.std.proofs.lemmas.List.{length-take-le, length-drop, take-append-drop}
use Rattle.std.specs.List.{AllByRecursion}
use Rattle.bayou_base.specs.Vector.{AreCounts}
use Rattle.bayou_base.specs.declared.limits.TheConstants.{SERVERS, MAX_WRITES}
use Rattle.bayou_text.specs.Ranges.{IsCutTo}
use Rattle.bayou_text.specs.Spelling.{vector_json}
use Rattle.bayou_text.specs.Table.{VectorIs}

pub taken : (counts : List ℕ) (n : ℕ) → ((k d : ℕ) → k < length counts → get_or counts k d ≤ MAX_WRITES)
    → AllByRecursion (λ count. count ≤ MAX_WRITES) (take n counts)
taken [] zero each = tt
taken [] (suc n) each = tt
taken (count ∷ counts) zero each = tt
taken (count ∷ counts) (suc n) each =
    (each 0 0 (omega arith), taken counts n (λ k d below. each (suc k) d (omega (arith, below))))

zeros : (counts : List ℕ) → AllByRecursion (λ count. count ≡ 0) counts → counts ≡ replicate (length counts) 0
zeros [] none = refl
zeros (count ∷ counts) none = rw (none.0, ← zeros counts none.1) refl

-- what is told of a vector is all of it
pub vector_spelled : (n : ℕ) (vector : List ℕ) → AreCounts vector → IsCutTo n vector → VectorIs (vector_json n vector) vector n
vector_spelled n vector are cut =
    let others : length (drop n vector) ≡ SERVERS - n = length-drop n vector ∙ ap (λ m. m - n) are.one_each in
    let none : drop n vector ≡ replicate (SERVERS - n) 0 = zeros (drop n vector) cut.1 ∙ ap (λ m. replicate m 0) others in
    record {
      counts = take n vector;
      array_is = refl;
      number_is = length-take-le n vector (omega (arith, cut.0.1, are.one_each));
      number_in_range = cut.0;
      counts_in_range = taken vector n are.in_range;
      vector_is = sym (take-append-drop n vector) ∙ ap (λ l. take n vector ++ l) none;
    }
