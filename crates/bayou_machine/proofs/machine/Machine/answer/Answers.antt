use Rattle.std.proofs.Common.{refl}
use Rattle.bayou_text.specs.Said.{trial_said}
use Rattle.bayou_machine.proofs.Operations.{trial_is_none}
use Rattle.bayou_machine.proofs.Turned.{left_turn}
use Rattle.bayou_machine.proofs.machine.Machine.answer.Goals as goal

pub returns-in-Trial : goal.returns-in-Trial
returns-in-Trial g c =
    let trial = c.in-Trial.trial in
    rw (c.in-Trial.is, ← c.self-in-Trial.view_is)
    (left_turn _ _ (trial_said trial) c.put_through.result (trial_is_none c.self-in-Trial.inside.parties trial.server.index trial.kind) c.put_through.ensures refl)
