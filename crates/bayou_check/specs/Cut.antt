-- How much of a text is left to be cut into lines.
use Rattle.std.specs.Prelude.{ℕ, ◌+◌, List, Option, None, Some, length}
use Rattle.std.specs.Borrow.{Bor}

-- nothing after the last line; else the bytes that are left, and one
abbrev pub left_in : Option (Bor (List ℕ)) → ℕ
left_in None = 0
left_in (Some rest) = length rest.now + 1
