-- Lists of counts.
use Rattle.std.proofs.Common.{◌≡◌, ℕ, zero, suc, ◌<◌, ◌≤◌, ◌↔◌, ◌⊎◌, List, [], ◌∷◌, All, length, get_or, max, ap, ◌∙◌, refl, arith}
use Rattle.std.proofs.lemmas.Grind.{get_or_default_zero}
use Rattle.bayou_base.specs.declared.limits.TheConstants.{MAX_WRITES}
use Rattle.bayou_base.specs.Vector.{AreCounts, Covers, joined}

pub length-joined : (counts others : List ℕ) → length counts ≡ length others → length (joined counts others) ≡ length counts
length-joined [] others h = refl
length-joined (count ∷ counts) [] h = absurd (omega arith)
length-joined (count ∷ counts) (other ∷ others) h = ap suc (length-joined counts others (omega arith))

-- at each place the greater of the two counts
pub get_or-joined : (counts others : List ℕ) (server : ℕ) → length counts ≡ length others → get_or (joined counts others) server 0 ≡ max (get_or counts server 0) (get_or others server 0)
get_or-joined [] [] server h = omega arith
get_or-joined [] (other ∷ others) server h = absurd (omega arith)
get_or-joined (count ∷ counts) [] server h = absurd (omega arith)
get_or-joined (count ∷ counts) (other ∷ others) zero h = refl
get_or-joined (count ∷ counts) (other ∷ others) (suc server) h = get_or-joined counts others server (omega arith)

pub AreCounts-joined : (counts others : List ℕ) → AreCounts counts → AreCounts others → AreCounts (joined counts others)
AreCounts-joined counts others are these = record { one_each = length-joined counts others same ∙ are.one_each; in_range = in_range }
  where
    same : length counts ≡ length others
    same = omega (arith, are.one_each, these.one_each)

    in_range : All (λ count. count ≤ MAX_WRITES) (joined counts others)
    in_range server d within =
        let inside : server < length counts = omega (arith, length-joined counts others same) in
        rw (get_or_default_zero (joined counts others) server d within, get_or-joined counts others server same)
        (omega (arith, are.in_range server 0 inside, these.in_range server 0 (omega (arith, same))))

-- a join counts exactly the Writes that either counts
pub Covers-joined : (counts others : List ℕ) (server seq : ℕ) → length counts ≡ length others → Covers (joined counts others) server seq ↔ (Covers counts server seq ⊎ Covers others server seq)
Covers-joined counts others server seq same = rw (get_or-joined counts others server same) (to, from)
  where
    to : seq ≤ max (get_or counts server 0) (get_or others server 0) → (seq ≤ get_or counts server 0) ⊎ (seq ≤ get_or others server 0)
    to h = grind arith

    from : (seq ≤ get_or counts server 0) ⊎ (seq ≤ get_or others server 0) → seq ≤ max (get_or counts server 0) (get_or others server 0)
    from h = grind arith
