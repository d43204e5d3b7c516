-- How a server is to begin: this project's own.
use Rattle.std.specs.Prelude.{Bool, true, false, Option, None, Some}
use Rattle.bayou_serve.specs.declared.plan.Beginning.{Beginning}
use Rattle.bayou_serve.specs.declared.plan.Beginning.TheVariants.{GoOn, New, Restore}

-- the way that is asked for: with a new journal, with one that is made again, or else with the one that is there; both can't be
abbrev pub beginning_of : (is_new is_restored : Bool) → Option Beginning
beginning_of false false = Some GoOn
beginning_of true false = Some New
beginning_of false true = Some Restore
beginning_of true true = None
