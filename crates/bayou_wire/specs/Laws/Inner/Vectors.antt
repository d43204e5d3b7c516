-- The bytes of a vector that has its counts are those of each of them.
use Rattle.std.proofs.Common.{◌≡◌, ℕ, ◌+◌, ◌<◌, suc, List, [], ◌∷◌, ◌++◌, length, get_or, ap, sym, ◌∙◌, refl, arith, ◌*◌}
use Rattle.std.specs.List.{flat_map, range_with_len}
use Rattle.bayou_base.specs.Vector.{AreCounts}
use Rattle.bayou_base.specs.declared.limits.TheConstants.{SERVERS}
use Rattle.bayou_wire.specs.Spelling.{counts_bytes, u32_bytes, vector_bytes}

-- what is made of the numbers from one on is made of a list's members, where each number gives its member
flat_map-range : (f : ℕ → List ℕ) (at : ℕ → ℕ) (from : ℕ) (xs : List ℕ) → ((i : ℕ) → i < length xs → at (from + i) ≡ get_or xs i 0)
    → flat_map (λ n. f (at n)) (range_with_len from (length xs)) ≡ flat_map f xs
flat_map-range f at from [] gives = refl
flat_map-range f at from (x ∷ xs) gives =
    let here : from ≡ from + 0 = omega arith in
    let first : at from ≡ x = ap at here ∙ gives 0 (omega arith) in
    let rest = flat_map-range f at (from + 1) xs (λ i within.
    let next : from + 1 + i ≡ from + suc i = omega arith in
    ap at next ∙ gives (suc i) (omega arith)) in
    ap (λ front. f front ++ flat_map (λ n. f (at n)) (range_with_len (from + 1) (length xs))) first ∙ ap (λ back. f x ++ back) rest

pub vector_bytes-is : (counts : List ℕ) → AreCounts counts → vector_bytes counts ≡ flat_map u32_bytes counts
unfolding vector_bytes
vector_bytes-is counts are =
    ap (λ servers. counts_bytes servers counts) (sym are.one_each) ∙ flat_map-range u32_bytes (λ server. get_or counts server 0) 0 counts (λ i within. let plain : 0 + i ≡ i = omega arith in ap (λ place. get_or counts place 0) plain)

-- a vector has as many bytes as the servers' counts take
pub length-vector_bytes : (counts : List ℕ) → length (vector_bytes counts) ≡ SERVERS * 4
unfolding vector_bytes
length-vector_bytes counts = refl
