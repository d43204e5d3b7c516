use Rattle.std.proofs.Common.{refl}
use Rattle.bayou_text.specs.Said.{audit_said}
use Rattle.bayou_explain.specs.Refused.{AsksOther}
use Rattle.bayou_explain.proofs.Found.{all_more, found_here, not_told}
use Rattle.bayou_explain.proofs.refused.other_asks.Goals as goal

pub returns-then-asks_other : goal.returns-then-asks_other
returns-then-asks_other c =
    found_here c.args.lines.now c.loop-line.line-index c.line-item.result (AsksOther c.args.session.index c.args.asks) c.shown_as.result c.loop-line-test.true c.line-item.is
    (c.if-asks_other.ensures.0 refl) c.shown_as.ensures

pub loop-line-preserved : goal.loop-line-preserved
loop-line-preserved c =
    all_more (λ line. ¬ AsksOther c.args.session.index c.args.asks (audit_said line.told)) c.args.lines.now c.loop-line.line-index c.line-item.result c.loop-line-test.true c.line-item.is
    (not_told c.if-asks_other.ensures.1) c.loop-line.invariant
