use Rattle.std.proofs.Common.{refl}
use Rattle.bayou_text.specs.Said.{audit_said}
use Rattle.bayou_explain.specs.Refused.{NamesWrite}
use Rattle.bayou_explain.proofs.Found.{all_more, found_here, not_told}
use Rattle.bayou_explain.proofs.refused.named.Goals as goal

pub returns-then-names : goal.returns-then-names
returns-then-names c =
    found_here c.args.lines.now c.loop-line.line-index c.line-item.result (NamesWrite c.args.wid) c.shown_as.result c.loop-line-test.true c.line-item.is
    (c.if-names.ensures.0 refl) c.shown_as.ensures

pub loop-line-preserved : goal.loop-line-preserved
loop-line-preserved c =
    all_more (λ line. ¬ NamesWrite c.args.wid (audit_said line.told)) c.args.lines.now c.loop-line.line-index c.line-item.result c.loop-line-test.true c.line-item.is
    (not_told c.if-names.ensures.1) c.loop-line.invariant
