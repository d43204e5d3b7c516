-- The lines that a writer takes: this project's own.
use Rattle.std.specs.Prelude.{ℕ, zero, suc, ◌+◌, ◌-◌, ◌^◌, ◌==◌, List, [], Result, Ok, Err, count_by, min, take}
use Rattle.bayou_base.specs.declared.limits.TheConstants.{MAX_TURNS}

-- the count of so many more, which stands at its greatest
abbrev pub counted : ℕ → ℕ → ℕ
counted count zero = count
counted count (suc more) = min (count + suc more) (2 ^ 64 - 1)

-- how many lines end in a text
abbrev pub line_feeds : List ℕ → ℕ
line_feeds text = count_by (λ byte. byte == 10) text

-- what a call of `write` took of a text: nothing where it failed
abbrev pub taken_of : {E : Type 0} → Result ℕ E → List ℕ → List ℕ
taken_of (Ok count) text = take count text
taken_of (Err error) text = []

-- the turns that are left after so many line feeds: all of them for another line, or those that there were
abbrev pub turns_behind : ℕ → ℕ → ℕ
turns_behind zero turns_left = turns_left
turns_behind (suc lines) turns_left = MAX_TURNS
