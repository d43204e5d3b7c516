-- What the calls of a device do: this project's own model.
use Rattle.std.specs.Prelude.{◌≡◌, ℕ, ◌+◌, List, ◌++◌, min}

-- the bytes are this front and something after it
abbrev pub BeginsWith : List ℕ → List ℕ → Type 0
BeginsWith front bytes = (rest : List ℕ) × (bytes ≡ front ++ rest)

-- the greatest count of what happens to a device
abbrev pub greatest_count : ℕ
greatest_count = 18446744073709551615

-- the count after one more; at its greatest value it stays
abbrev pub one_more : ℕ → ℕ
one_more count = min (count + 1) greatest_count

-- one failure more is counted
abbrev pub Rose : ℕ → ℕ → Type 0
Rose before after = after ≡ one_more before
