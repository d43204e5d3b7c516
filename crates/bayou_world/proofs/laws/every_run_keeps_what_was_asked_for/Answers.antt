use Rattle.std.proofs.Common.{subst}
use Rattle.bayou_judge.specs.Guarantees.{Keeps}
use Rattle.bayou_world.specs.Runs.{history_of_machine}
use Rattle.bayou_world.proofs.Keeping.{keeps}
use Rattle.bayou_world.proofs.Running.{run_is_good}
use Rattle.bayou_world.proofs.Starting.{still_asks}
use Rattle.bayou_world.proofs.laws.every_run_keeps_what_was_asked_for.Goals as goal

pub returns : goal.returns
returns c count limit capacity asks events replies last run session wants is =
    let found = still_asks count limit capacity asks events replies last run session wants is in
    subst (λ asked. Keeps (history_of_machine last) asked session) found.2 (keeps last (run_is_good count limit capacity asks events replies last run) session found.0 found.1)
