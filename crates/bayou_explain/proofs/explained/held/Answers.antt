use Rattle.std.proofs.Common.{arith, refl}
use Rattle.bayou_text.specs.Said.{audit_said}
use Rattle.bayou_explain.specs.Located.{IsHeldBy}
use Rattle.bayou_explain.proofs.Found.{all_more, all_taken, found_here, not_told}
use Rattle.bayou_explain.proofs.explained.held.Goals as goal

pub returns-then-is_held : goal.returns-then-is_held
returns-then-is_held c =
    found_here c.args.lines.now c.loop-line.line-index c.line-item.result (IsHeldBy c.args.server.index c.args.wid) c.shown_as.result c.loop-line-test.true c.line-item.is
    (c.if-is_held.ensures.0 refl) c.shown_as.ensures

pub loop-line-preserved : goal.loop-line-preserved
loop-line-preserved c =
    all_more (λ line. ¬ IsHeldBy c.args.server.index c.args.wid (audit_said line.told)) c.args.lines.now c.loop-line.line-index c.line-item.result c.loop-line-test.true c.line-item.is
    (not_told c.if-is_held.ensures.1) c.loop-line.invariant

pub returns : goal.returns
returns c =
    all_taken (λ line. ¬ IsHeldBy c.args.server.index c.args.wid (audit_said line.told)) c.args.lines.now c.loop-line.line-index (omega (arith, c.loop-line-test.false)) c.loop-line.invariant
