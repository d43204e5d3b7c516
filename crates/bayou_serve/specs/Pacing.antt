-- How it is counted how long bytes are waited for: this project's own.
use Rattle.std.specs.Prelude.{ℕ, ◌+◌, ◌-◌, ◌^◌, min}

-- for how long it was waited until now, where it was for so long before, and is since then; at its greatest value it stays
abbrev pub waited_at : (waited since now : ℕ) → ℕ
waited_at waited since now = min (waited + (now - since)) (2 ^ 64 - 1)
