use Rattle.std.proofs.Common.{arith, refl}
use Rattle.bayou_text.specs.Said.{audit_said}
use Rattle.bayou_explain.specs.Refused.{IsNotBelow}
use Rattle.bayou_explain.proofs.Found.{all_taken, found_here}
use Rattle.bayou_explain.proofs.refused.not_below.Goals as goal

pub returns-then-is_not_below : goal.returns-then-is_not_below
returns-then-is_not_below c =
    found_here c.args.lines.now c.loop-line.line-index c.line-item.result (IsNotBelow c.args.session.index c.args.place) c.shown_as.result c.loop-line-test.true c.line-item.is
    (c.if-is_not_below.ensures.0 refl) c.shown_as.ensures

pub returns : goal.returns
returns c =
    all_taken (λ line. ¬ IsNotBelow c.args.session.index c.args.place (audit_said line.told)) c.args.lines.now c.loop-line.line-index (omega (arith, c.loop-line-test.false)) c.loop-line.invariant
