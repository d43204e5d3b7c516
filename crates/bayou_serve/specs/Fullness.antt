-- When a server is reported to fill up: this project's own.
use Rattle.std.specs.Prelude.{◌≡◌, ◌⊎◌, ℕ, ◌*◌, ◌≤◌, List, [], ◌∷◌, All, Contains}

-- the steps of fullness that are reported, in hundredths of the limit
abbrev pub steps : List ℕ
steps = 90 ∷ 95 ∷ 99 ∷ []

-- so many Writes are that many hundredths of the limit, or more
abbrev pub IsReached : (held limit step : ℕ) → Type 0
IsReached held limit step = step * limit ≤ 100 * held

-- the greatest of the steps that is reached, or 0 where none is
abbrev pub IsFullness : (held limit full : ℕ) → Type 0
IsFullness held limit full =
    ((full ≡ 0) ⊎ (Contains steps full × IsReached held limit full))
    × All (λ step. IsReached held limit step → step ≤ full) steps
