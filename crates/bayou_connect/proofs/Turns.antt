-- Numbers one behind another.
use Rattle.std.proofs.Common.{arith, ◌≡◌, ℕ, zero, suc, ◌+◌, ◌-◌, ◌≤◌, List, [], ◌∷◌, ◌++◌, append_assoc, ap, sym, ◌∙◌}
use Rattle.std.specs.List.{range_with_len}

snoc : (a n : ℕ) → range_with_len a (suc n) ≡ range_with_len a n ++ (a + n) ∷ []
snoc a zero = let same : a ≡ a + 0 = omega arith in ap (λ x. x ∷ []) same
snoc a (suc n) =
    let same : a + 1 + n ≡ a + suc n = omega arith in
    ap (λ xs. a ∷ xs) (snoc (a + 1) n ∙ ap (λ x. range_with_len (a + 1) n ++ x ∷ []) same)

-- one number more, from the first on
pub one_more_from : (first at : ℕ) (before after : List ℕ) → first ≤ at → before ≡ range_with_len first (at - first) → after ≡ before ++ at ∷ []
    → after ≡ range_with_len first (at + 1 - first)
one_more_from first at before after within so_far pushed =
    let count : suc (at - first) ≡ at + 1 - first = omega (arith, within) in
    let here : at ≡ first + (at - first) = omega (arith, within) in
    pushed ∙ ap (λ xs. xs ++ at ∷ []) so_far ∙ ap (λ x. range_with_len first (at - first) ++ x ∷ []) here
    ∙ sym (snoc first (at - first)) ∙ ap (range_with_len first) count

-- one number more behind others
pub one_more_behind : (others : List ℕ) (at : ℕ) (before after : List ℕ) → before ≡ others ++ range_with_len 0 at → after ≡ before ++ at ∷ []
    → after ≡ others ++ range_with_len 0 (at + 1)
one_more_behind others at before after so_far pushed =
    let here : at ≡ 0 + at = omega arith in
    let count : suc at ≡ at + 1 = omega arith in
    pushed ∙ ap (λ xs. xs ++ at ∷ []) so_far ∙ append_assoc others (range_with_len 0 at) (at ∷ [])
    ∙ ap (λ x. others ++ (range_with_len 0 at ++ x ∷ [])) here ∙ ap (λ xs. others ++ xs) (sym (snoc 0 at)) ∙ ap (λ n. others ++ range_with_len 0 n) count
