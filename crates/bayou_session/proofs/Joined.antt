-- What dominating a join and dominating what is asked for come to.
use Rattle.std.proofs.Common.{◌≡◌, ◌↔◌, ℕ, zero, suc, Bool, true, false, List, [], ◌∷◌, length, max, replicate, sym, ◌∙◌, refl, arith}
use Rattle.std.specs.Prelude.{slice_index}
use Rattle.bayou_base.specs.declared.limits.TheConstants.{SERVERS}
use Rattle.bayou_base.specs.Vector.{Dominates, joined}
use Rattle.bayou_session.specs.Needs.{if_asked}

pub index-joined : (xs ys : List ℕ) (i : ℕ) → length xs ≡ length ys → slice_index (joined xs ys) i ≡ max (slice_index xs i) (slice_index ys i)
index-joined [] [] i same = refl
index-joined (x ∷ xs) (y ∷ ys) zero same = refl
index-joined (x ∷ xs) (y ∷ ys) (suc i) same = index-joined xs ys i (omega arith)
index-joined [] (y ∷ ys) i same = absurd (omega arith)
index-joined (x ∷ xs) [] i same = absurd (omega arith)

pub Dominates-joined : (held xs ys : List ℕ) → length xs ≡ length ys → Dominates held (joined xs ys) ↔ (Dominates held xs × Dominates held ys)
Dominates-joined held xs ys same = (
  λ both. (
    λ server within. omega (arith, index-joined xs ys server same, both server within),
    λ server within. omega (arith, index-joined xs ys server same, both server within),
  ),
  λ each server within. omega (arith, index-joined xs ys server same, each.0 server within, each.1 server within),
)

index-zeros : (n i : ℕ) → slice_index (replicate n 0) i ≡ 0
index-zeros zero i = refl
index-zeros (suc n) zero = refl
index-zeros (suc n) (suc i) = index-zeros n i

pub Dominates-asked : (held counts : List ℕ) (is_asked : Bool) → Dominates held (if_asked is_asked counts) ↔ (is_asked ≡ true → Dominates held counts)
Dominates-asked held counts true = (λ dominates asked. dominates, λ given. given refl)
Dominates-asked held counts false = (λ dominates asked. absurd (cc), λ given server within. omega (arith, index-zeros SERVERS server))

length-asked : (counts : List ℕ) (is_asked : Bool) → length counts ≡ SERVERS → length (if_asked is_asked counts) ≡ SERVERS
length-asked counts true counted = counted
length-asked counts false counted = refl

-- to dominate the join of what is asked for is to dominate each that is
pub Dominates-need : (held xs ys : List ℕ) (x y : Bool) → length xs ≡ SERVERS → length ys ≡ SERVERS
    → Dominates held (joined (if_asked x xs) (if_asked y ys)) ↔ ((x ≡ true → Dominates held xs) × (y ≡ true → Dominates held ys))
Dominates-need held xs ys x y first second =
    let both = Dominates-joined held (if_asked x xs) (if_asked y ys) (length-asked xs x first ∙ sym (length-asked ys y second)) in
    let one = Dominates-asked held xs x in
    let other = Dominates-asked held ys y in (
      λ need. (one.0 (both.0 need).0, other.0 (both.0 need).1),
      λ each. both.1 (one.1 each.0, other.1 each.1),
    )
