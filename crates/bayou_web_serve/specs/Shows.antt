-- What a text shows.
use Rattle.std.specs.Prelude.{ℕ, List, Option, Some, None}
use Rattle.bayou_web_state.specs.Seen.{Shows}
use Rattle.bayou_web_state.specs.declared.seen.StoreSeen.{StoreSeen}

-- the text tells what is seen, with the rows whose keys begin so
abbrev pub IsShown : (prefix : List ℕ) → StoreSeen → (text : List ℕ) → Type 0
IsShown prefix seen text = ∥ Shows prefix seen text ∥₁

-- the same, of something that was seen once
abbrev pub ShowsSome : (prefix : List ℕ) → (text : Option (List ℕ)) → Type 0
ShowsSome prefix None = Unit {0}
ShowsSome prefix (Some text) = (seen : StoreSeen) × IsShown prefix seen text
