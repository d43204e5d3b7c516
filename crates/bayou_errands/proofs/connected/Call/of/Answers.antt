use Rattle.std.proofs.Common.{◌≡◌, Result, subst, sym}
use Rattle.std.specs.Prelude.{MatchResult}
use Rattle.bayou_command.specs.Connect.{connection_seen}
use Rattle.bayou_connect.specs.declared.plan.SessionPlan.{SessionPlan}
use Rattle.bayou_connect.specs.declared.plan.SessionPlanFault.{SessionPlanFault}
use Rattle.bayou_errands.specs.Plans.{IsPlanOfPlaces, RefusesConnection}
use Rattle.bayou_errands.proofs.connected.Call.of.Goals as goal

pub returns-clause-asked : goal.returns-clause-asked
returns-clause-asked c =
    let asked = connection_seen c.args.connecting.now in
    subst (λ (made : Result SessionPlan SessionPlanFault). MatchResult made (IsPlanOfPlaces asked) (RefusesConnection asked)) (sym c.in_ok-plan.ensures.same) c.plan_in.ensures
