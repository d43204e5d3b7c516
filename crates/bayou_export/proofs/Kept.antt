-- Where nothing is left out all rows are kept, and what isn't told of a vector is 0.
use Rattle.std.proofs.Common.{◌≡◌, ℕ, zero, suc, ◌<◌, List, [], ◌∷◌, ap, arith, drop, length, refl, slice_index}
use Rattle.std.specs.List.{AllByRecursion}
use Rattle.bayou_log.specs.Rows.{Row}
use Rattle.bayou_renew.specs.Renewal.{kept_of}

pub all_kept : (rows : List Row) → kept_of [] rows ≡ rows
all_kept [] = refl
all_kept (row ∷ rows) = ap (λ rest. row ∷ rest) (all_kept rows)

-- one count more is 0
pub zero_more : (counts : List ℕ) (at : ℕ) → at < length counts → slice_index counts at ≡ 0 → AllByRecursion (λ count. count ≡ 0) (drop (suc at) counts)
    → AllByRecursion (λ count. count ≡ 0) (drop at counts)
zero_more [] at within none zeros = absurd (omega (arith, within))
zero_more (count ∷ counts) zero within none zeros = (none, zeros)
zero_more (count ∷ counts) (suc at) within none zeros = zero_more counts at (omega (arith, within)) none zeros

-- behind all counts there is none
pub none_behind : (counts : List ℕ) (at : ℕ) → length counts ≡ at → AllByRecursion (λ count. count ≡ 0) (drop at counts)
none_behind [] zero all = tt
none_behind [] (suc at) all = tt
none_behind (count ∷ counts) zero all = absurd (omega (arith, all))
none_behind (count ∷ counts) (suc at) all = none_behind counts at (omega (arith, all))
