use Rattle.std.proofs.Common.{ap, map, sym}
use Rattle.bayou_command.specs.Renew.{renewal_seen}
use Rattle.bayou_errands.proofs.Planned.{wish_of}
use Rattle.bayou_errands.proofs.renewed.plan_in.Goals as goal

pub returns : goal.returns
returns c =
    let seen = renewal_seen c.args.renewing.now in
    wish_of seen c.as_slice.result.now c.new-plan.result c.in_ok-plan.plan (ap (map (λ word. word.now)) (sym c.as_slice.ensures.value))
    c.new-plan.ensures.whose c.new-plan.ensures.said c.new-plan.ensures.most c.new-plan.ensures.refused c.in_ok-plan.ensures.same c.in_ok-plan.ensures.known
