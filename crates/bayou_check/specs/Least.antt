-- What the least line with a fault of a text is.
use Rattle.std.specs.Prelude.{ℕ, List, Option, MatchOption}
use Rattle.bayou_check.specs.declared.least.Least.{Least}
use Rattle.bayou_script.specs.Order.{IsRefusedBy, Order}

-- the lines are a text, and say something; or they are refused under this order for this line
abbrev pub Checks : {T : Type 0} → Order → (List (List ℕ) → T → Type 0) → List (List ℕ) → Option Least → Type 0
Checks {T} order says lines least = MatchOption least ((told : T) × says lines told) (λ least. IsRefusedBy order lines least.number least.fault)
