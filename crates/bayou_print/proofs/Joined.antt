-- Texts joined by commas, one after another.
use Rattle.std.proofs.Common.{◌≡◌, ℕ, zero, suc, ◌+◌, ◌<◌, ◌≤◌, List, [], ◌∷◌, ◌++◌, ◌⊎◌, inl, inr, map, decimal, slice_index, refl, ap, sym, ◌∙◌, append_assoc, arith, add-one}
use Rattle.std.specs.List.{join_with_byte}
use Rattle.std.proofs.lemmas.List.{map-append}
use Rattle.bayou_print.specs.Printed.{first_counts, counts_text}

-- what stands before one more text: a comma, where there is one already
abbrev pub comma_after : List (List ℕ) → List ℕ
comma_after [] = []
comma_after (text ∷ texts) = 44 ∷ []

pub join_more : (texts : List (List ℕ)) (text : List ℕ) → join_with_byte 44 (texts ++ text ∷ []) ≡ join_with_byte 44 texts ++ (comma_after texts ++ text)
join_more [] text = refl
join_more (first ∷ []) text = refl
join_more (first ∷ second ∷ texts) text =
    ap (λ l. first ++ (44 ∷ l)) (join_more (second ∷ texts) text)
    ∙ sym (append_assoc first (44 ∷ join_with_byte 44 (second ∷ texts)) (44 ∷ text))

comma_after_more : (texts : List (List ℕ)) (text : List ℕ) → comma_after (texts ++ text ∷ []) ≡ 44 ∷ []
comma_after_more [] text = refl
comma_after_more (first ∷ texts) text = refl

texts_more : (servers : ℕ) (counts : List ℕ)
    → map decimal (first_counts (suc servers) counts) ≡ map decimal (first_counts servers counts) ++ decimal (slice_index counts servers) ∷ []
texts_more servers counts = map-append decimal (first_counts servers counts) (slice_index counts servers ∷ [])

comma_of : (servers : ℕ) (counts : List ℕ) → comma_after (map decimal (first_counts (suc servers) counts)) ≡ 44 ∷ []
comma_of servers counts = ap comma_after (texts_more servers counts) ∙ comma_after_more _ _

-- the counts of one server more
pub counts_more : (servers : ℕ) (counts separator : List ℕ) → ((0 < servers) × (separator ≡ 44 ∷ [])) ⊎ ((servers ≤ 0) × (separator ≡ []))
    → counts_text (servers + 1) counts ≡ counts_text servers counts ++ (separator ++ decimal (slice_index counts servers))
counts_more zero counts separator (inl (some, is)) = absurd (omega arith)
counts_more zero counts separator (inr (none, is)) = rw is refl
counts_more (suc servers) counts separator (inl (some, is)) =
    rw (add-one, is)
    (ap (join_with_byte 44) (texts_more (suc servers) counts) ∙ join_more (map decimal (first_counts (suc servers) counts)) (decimal (slice_index counts (suc servers)))
    ∙ ap (λ l. counts_text (suc servers) counts ++ (l ++ decimal (slice_index counts (suc servers)))) (comma_of servers counts))
counts_more (suc servers) counts separator (inr (none, is)) = absurd (omega arith)
