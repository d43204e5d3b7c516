use Rattle.std.proofs.Common.{◌∙◌}
use Rattle.std.proofs.lemmas.Result.{err_from_is_err_and}
use Rattle.bayou_serve.proofs.Living.{came_about, passed_on, three_lines}
use Rattle.bayou_serve.proofs.serving.serve_node.Goals as goal

pub returns-clause-lived : goal.returns-clause-lived
returns-clause-lived g c =
    let (address, counts, one) = came_about c.in-Ok-live_begun.ended c.in_ok-ended.was c.in-Ok-live_begun.ensures.printed in
    three_lines c.args.plan.now.id.index c.args.plan.now.servers _ _ _ _ address counts c.in-Ok-settle.settled _ _ c.print-2.result one
    (c.as_str.ensures.value ∙ c.in_ok-line.ensures) c.in_ok-print.ensures.whole (c.as_str-2.ensures.value ∙ c.in_ok-line-2.ensures) c.print-2.ensures.whole

pub returns-in_err-ended-clause-unserved : goal.returns-in_err-ended-clause-unserved
returns-in_err-ended-clause-unserved g c =
    let fails = err_from_is_err_and c.from_residual-in_err-ended.result c.from_residual-in_err-ended.ensures.1 in
    passed_on _ c.in-Ok-live_begun.ended c.from_residual-in_err-ended.result c.in_err-ended.field-0.0 c.in_err-ended.was fails.0 fails.1 fails.2 c.in-Ok-live_begun.ensures.unserved
