-- How many Writes are counted and not yet told of: one less with each that is told of.
use Rattle.std.proofs.Common.{◌≡◌, ℕ, zero, suc, ◌+◌, ◌-◌, ◌<◌, ◌≤◌, List, [], ◌∷◌, All, length, max, slice_index, slice_set, arith}
use Rattle.std.proofs.lemmas.List.{length-set}
use Rattle.std.proofs.lemmas.List.Elements.{All-head, All-tail}
use Rattle.bayou_base.specs.Vector.{raised}
use Rattle.bayou_base.specs.declared.wid.Wid.{Wid}

abbrev pub gap : List ℕ → List ℕ → ℕ
gap [] told = 0
gap (count ∷ counts) [] = 0
gap (count ∷ counts) (number ∷ told) = (count - number) + gap counts told

gap-less_here : (count number seq : ℕ) → seq ≡ number + 1 → seq ≤ count → (count - max number seq) + 1 ≡ count - number
gap-less_here count number seq next counted = omega (arith, next, counted)

pub gap-less : (counts told : List ℕ) (server seq : ℕ) → server < length told → seq ≡ slice_index told server + 1 → seq ≤ slice_index counts server
    → gap counts (slice_set told server (max (slice_index told server) seq)) + 1 ≡ gap counts told
gap-less [] told server seq within next counted = absurd (omega (arith, next, counted))
gap-less (count ∷ counts) [] server seq within next counted = absurd (omega (arith, within))
gap-less (count ∷ counts) (number ∷ told) zero seq within next counted =
    let here = gap-less_here count number seq next counted in
    let whole : ((count - max number seq) + gap counts told) + 1 ≡ (count - number) + gap counts told = omega (arith, here) in
    whole
gap-less (count ∷ counts) (number ∷ told) (suc server) seq within next counted =
    let rest = gap-less counts told server seq (omega (arith, within)) next counted in
    let whole : ((count - number) + gap counts (slice_set told server (max (slice_index told server) seq))) + 1 ≡ (count - number) + gap counts told = omega (arith, rest) in
    whole

-- so many times a number
abbrev pub times : ℕ → ℕ → ℕ
times zero most = 0
times (suc number) most = most + times number most

-- it is no more than so many for each server
pub gap-most : (counts told : List ℕ) (most : ℕ) → All (λ count. count ≤ most) counts → gap counts told ≤ times (length counts) most
gap-most [] told most all = omega arith
gap-most (count ∷ counts) [] most all =
    let whole : 0 ≤ most + times (length counts) most = omega arith in
    whole
gap-most (count ∷ counts) (number ∷ told) most all =
    let head = All-head (λ (c : ℕ). c ≤ most) count counts all in
    let rest = gap-most counts told most (All-tail (λ (c : ℕ). c ≤ most) count counts all) in
    let whole : (count - number) + gap counts told ≤ most + times (length counts) most = omega (arith, head, rest) in
    whole

-- a vector that is raised has as many counts
pub length-raised : (told : List ℕ) (wid : Wid) → length (raised told wid) ≡ length told
length-raised told wid = length-set told wid.origin.index (max (slice_index told wid.origin.index) wid.seq)
