use Rattle.std.proofs.Common.{IsTrue, rules, subst, sym}
use Rattle.bayou_fleet.proofs.Arranging.{own_operation, put_own}
use Rattle.bayou_script.specs.Phases.{is_operation_of}
use Rattle.bayou_text.specs.Said.{operation_said}
use Rattle.bayou_fleet.proofs.phase.Phase.put.Goals as goal

pub returns-in_ok-push-in-Operation : goal.returns-in_ok-push-in-Operation
returns-in_ok-push-in-Operation c coming lines all =
    let operation = c.in-Operation.operation in
    put_own _ _ _ _ c.from.result operation c.index_mut.result.now c.push-in-Operation.new.self coming lines (search rules) c.index_mut.ensures.value (search rules)
    (subst (λ who. IsTrue (is_operation_of who (operation_said operation))) (sym c.from.ensures) (own_operation operation)) (rw c.in-Operation.is at all)
