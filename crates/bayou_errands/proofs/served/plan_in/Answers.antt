use Rattle.std.proofs.Common.{ap, map, refl, sym}
use Rattle.bayou_command.specs.Serve.{service_seen}
use Rattle.bayou_errands.proofs.Planned.{plan_of}
use Rattle.bayou_errands.proofs.served.plan_in.Goals as goal

pub returns-clause-asked : goal.returns-clause-asked
returns-clause-asked c =
    let seen = service_seen c.args.serving.now in
    plan_of seen c.as_slice.result.now c.as_slice-2.result.now _ c.new-plan.result c.in_ok-plan.plan (ap (map (λ word. word.now)) (sym c.as_slice.ensures.value))
    (ap (map (λ word. word.now)) (sym c.as_slice-2.ensures.value))
    (record { limit = refl; every = refl; connections = refl; idle = refl; until = refl; beginning = c.in-Some.ensures })
    c.new-plan.ensures.same c.new-plan.ensures.listens c.new-plan.ensures.said c.new-plan.ensures.left c.new-plan.ensures.refused c.in_ok-plan.ensures.same c.in_ok-plan.ensures.known
