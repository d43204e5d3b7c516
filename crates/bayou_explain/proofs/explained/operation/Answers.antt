use Rattle.std.proofs.Common.{arith, refl}
use Rattle.bayou_text.specs.Said.{audit_said}
use Rattle.bayou_explain.specs.Located.{IsOperationAt}
use Rattle.bayou_explain.proofs.Found.{all_taken, found_here}
use Rattle.bayou_explain.proofs.explained.operation.Goals as goal

pub returns-then-is_operation : goal.returns-then-is_operation
returns-then-is_operation c =
    found_here c.args.lines.now c.loop-line.line-index c.line-item.result (IsOperationAt c.args.session.index c.args.place) c.shown_as.result c.loop-line-test.true c.line-item.is
    (c.if-is_operation.ensures.0 refl) c.shown_as.ensures

pub returns : goal.returns
returns c =
    all_taken (λ line. ¬ IsOperationAt c.args.session.index c.args.place (audit_said line.told)) c.args.lines.now c.loop-line.line-index (omega (arith, c.loop-line-test.false)) c.loop-line.invariant
