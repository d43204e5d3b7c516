use Rattle.std.proofs.Common.{Ok, Err, ap, false, map, refl, subst, sym}
use Rattle.bayou_command.specs.Connect.{Connection, connection_seen}
use Rattle.bayou_connect.specs.declared.plan.SessionPlan.{SessionPlan}
use Rattle.bayou_errands.specs.Plans.{IsPlanOfPlaces}
use Rattle.bayou_errands.proofs.Planned.{places_of, printed_so}
use Rattle.bayou_errands.proofs.connected.plan_in.Goals as goal

pub returns-in-Ok : goal.returns-in-Ok
returns-in-Ok c =
    let asked = connection_seen c.args.connecting.now in
    let made = places_of (record asked { is_json = false }) c.as_slice.result.now c.args.connecting.now.asks (Ok c.in-Ok.plan) (Ok c.in-Ok.plan) (ap (map (λ word. word.now)) (sym c.as_slice.ensures.value)) refl
    c.in-Ok.ensures.said c.in-Ok.ensures.same c.in-Ok.ensures.servers c.in-Ok.ensures.asks c.in-Ok.ensures.json tt refl in
    subst (λ (plan : SessionPlan). IsPlanOfPlaces asked plan) (sym c.printing.ensures) (printed_so asked c.in-Ok.plan made)

pub returns-in-Err : goal.returns-in-Err
returns-in-Err c =
    let asked = connection_seen c.args.connecting.now in
    places_of asked c.as_slice.result.now c.args.connecting.now.asks (Err c.in-Err.fault) (Err c.in-Err.fault) (ap (map (λ word. word.now)) (sym c.as_slice.ensures.value)) refl
    tt tt tt tt tt c.in-Err.ensures.refused refl
