-- Slips that are out, share by share.
use Rattle.std.proofs.Common.{◌≡◌, ◌∙◌, ◌⊎◌, inl, inr, ℕ, zero, suc, ◌+◌, ◌<◌, ◌≤◌, List, [], ◌∷◌, length, get_or, Some, refl, sym, ap, subst, arith}
use Rattle.std.proofs.lemmas.Bool.{cases_lt}
use Rattle.std.proofs.lemmas.Option.{get_or_from_slice_get, slice_get-get_or}
use Rattle.bayou_audit.specs.Inner.Parts.{IsOutAt}
use Rattle.bayou_audit.specs.Totals.{Shared, sums_of}

-- of none of the first so many shares is a slip out
abbrev pub NoneOut : List Shared → ℕ → Type 0
NoneOut shares number = (at : ℕ) (none : Shared) → at < number → (get_or shares at none).totals.slips ≡ 0

pub none_out : (shares : List Shared) → NoneOut shares (length shares) → (sums_of shares).slips ≡ 0
none_out [] each = refl
none_out (share ∷ shares) each =
    let first = each 0 share (omega arith) in
    let others = none_out shares (λ at none within. each (suc at) none (omega (arith, within))) in
    omega (arith, first, others)

part_of_sum : (shares : List Shared) (at : ℕ) (none : Shared) → at < length shares → (get_or shares at none).totals.slips ≤ (sums_of shares).slips
part_of_sum [] at none within = absurd (omega (arith, within))
part_of_sum (share ∷ shares) zero none within = omega arith
part_of_sum (share ∷ shares) (suc at) none within = let others = part_of_sum shares at none (omega (arith, within)) in omega (arith, others)

-- what is at a place that there is, whatever would stand for none
at_place : (shares : List Shared) (at : ℕ) (share none : Shared) → at < length shares → share ≡ get_or shares at share → get_or shares at none ≡ share
at_place shares at share none within is =
    get_or_from_slice_get shares at share none (slice_get-get_or shares at share within ∙ ap Some (sym is))

pub found_out : (shares : List Shared) (at : ℕ) (share : Shared) → at < length shares → share ≡ get_or shares at share → 0 < share.totals.slips
    → IsOutAt shares at × (0 < (sums_of shares).slips)
found_out shares at share within is out = (
  λ none. subst (λ (s : Shared). 0 < s.totals.slips) (sym (at_place shares at share none within is)) out,
  (let part = part_of_sum shares at share within in omega (arith, part, out, ap (λ (s : Shared). s.totals.slips) is)),
)

one_more_at : (shares : List Shared) (number : ℕ) (share : Shared) (at : ℕ) (none : Shared) → number < length shares → NoneOut shares number
    → share ≡ get_or shares number share → share.totals.slips ≡ 0 → at < number + 1 → (at < number) ⊎ (number ≤ at) → (get_or shares at none).totals.slips ≡ 0
one_more_at shares number share at none within so_far is last below (inl before) = so_far at none before
one_more_at shares number share at none within so_far is last below (inr here) =
    let same : at ≡ number = omega (arith, below, here) in
    ap (λ (i : ℕ). (get_or shares i none).totals.slips) same ∙ ap (λ (s : Shared). s.totals.slips) (at_place shares number share none within is) ∙ last

pub one_more : (shares : List Shared) (number : ℕ) (share : Shared) → number < length shares → NoneOut shares number
    → share ≡ get_or shares number share → share.totals.slips ≡ 0 → NoneOut shares (number + 1)
one_more shares number share within so_far is last at none below = one_more_at shares number share at none within so_far is last below (cases_lt at number)
