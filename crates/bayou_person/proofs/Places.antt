-- Where a byte stands first.
use Rattle.std.proofs.Common.{◌≡◌, ℕ, Bool, true, false, List, Option, None, Some, ap, cond, length, nat_lt, refl}
use Rattle.std.specs.List.{position, position_or_len}

pick_none : (there : Bool) (at : ℕ) → cond there (Some at) None ≡ None → there ≡ false
pick_none false at is = refl
pick_none true at is = absurd (cc)

abbrev number_or : ℕ → Option ℕ → ℕ
number_or n None = n
number_or n (Some m) = m

pick_some : (there : Bool) (place at : ℕ) → cond there (Some place) None ≡ Some at → (there ≡ true) × (place ≡ at)
pick_some false place at is = absurd (cc)
pick_some true place at is = (refl, ap (number_or place) is)

pub none_at : {X : Type 0} (p : X → Bool) (xs : List X) → position p xs ≡ None → nat_lt (position_or_len p xs) (length xs) ≡ false
none_at p xs is = pick_none (nat_lt (position_or_len p xs) (length xs)) (position_or_len p xs) is

pub some_at : {X : Type 0} (p : X → Bool) (xs : List X) (at : ℕ) → position p xs ≡ Some at → (nat_lt (position_or_len p xs) (length xs) ≡ true) × (position_or_len p xs ≡ at)
some_at p xs at is = pick_some (nat_lt (position_or_len p xs) (length xs)) (position_or_len p xs) at is
