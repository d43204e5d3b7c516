-- Text values.
use Rattle.std.specs.Prelude.{ℕ, ◌≤◌, List, length}
use Rattle.bayou_base.specs.declared.limits.TheConstants.{MAX_TEXT_BYTES}

-- short enough for a text value
abbrev pub IsShort : List ℕ → Type 0
IsShort bytes = length bytes ≤ MAX_TEXT_BYTES
