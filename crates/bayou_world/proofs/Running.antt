-- A run keeps what is good, and a tag of one Write.
use Rattle.std.proofs.Common.{ℕ, List, [], ◌∷◌, Option, sym, subst}
use Rattle.bayou_base.specs.declared.asks.Asks.{Asks}
use Rattle.bayou_world.specs.declared.event.Event.{Event}
use Rattle.bayou_world.specs.declared.reply.Reply.{Reply}
use Rattle.bayou_world.specs.Inner.Good.{IsGoodMachine}
use Rattle.bayou_world.specs.Machine.{Machine}
use Rattle.bayou_world.specs.Runs.{Run, first_machine}
use Rattle.bayou_world.specs.Tags.{AreTagged, HasDistinctTags}
use Rattle.bayou_world.proofs.Starting.{first_good}
use Rattle.bayou_world.proofs.Stepping.{step_good}
use Rattle.bayou_world.proofs.Tagging.{distinct_tags, first_tagged, step_tagged}

abbrev pub IsSafe : Machine → Type 0
IsSafe machine = IsGoodMachine machine × AreTagged machine

run_safe : (old : Machine) (events : List Event) (replies : List Reply) (new : Machine) → IsSafe old → Run old events replies new → IsSafe new
run_safe old [] [] new safe run = subst IsSafe (sym run) safe
run_safe old [] (reply ∷ replies) new safe run = absurd run
run_safe old (event ∷ events) [] new safe run = absurd run
run_safe old (event ∷ events) (reply ∷ replies) new (good, tagged) (mid, step, rest) =
    run_safe mid events replies new (step_good old event reply mid good tagged step, step_tagged old event reply mid good tagged step) rest

run_is_safe : (count limit capacity : ℕ) (asks : ℕ → Option Asks) (events : List Event) (replies : List Reply) (last : Machine)
    → Run (first_machine count limit capacity asks) events replies last → IsSafe last
run_is_safe count limit capacity asks events replies last run =
    run_safe (first_machine count limit capacity asks) events replies last (first_good count limit capacity asks, first_tagged count limit capacity asks) run

pub run_is_good : (count limit capacity : ℕ) (asks : ℕ → Option Asks) (events : List Event) (replies : List Reply) (last : Machine)
    → Run (first_machine count limit capacity asks) events replies last → IsGoodMachine last
run_is_good count limit capacity asks events replies last run = (run_is_safe count limit capacity asks events replies last run).0

pub run_is_tagged : (count limit capacity : ℕ) (asks : ℕ → Option Asks) (events : List Event) (replies : List Reply) (last : Machine)
    → Run (first_machine count limit capacity asks) events replies last → AreTagged last
run_is_tagged count limit capacity asks events replies last run = (run_is_safe count limit capacity asks events replies last run).1

pub run_has_distinct_tags : (count limit capacity : ℕ) (asks : ℕ → Option Asks) (events : List Event) (replies : List Reply) (last : Machine)
    → Run (first_machine count limit capacity asks) events replies last → (place : ℕ) → HasDistinctTags (last.servers place)
run_has_distinct_tags count limit capacity asks events replies last run =
    distinct_tags last (run_is_good count limit capacity asks events replies last run) (run_is_tagged count limit capacity asks events replies last run)
