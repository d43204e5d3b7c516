use Rattle.std.proofs.Common.{◌<◌, ◌≤◌, rules, tests}
use Rattle.std.proofs.lemmas.Iterator.{YieldsList-from_slice, cases_from_all}
use Rattle.bayou_connect.specs.declared.plan.ServerPlace.{ServerPlace}
use Rattle.bayou_connect.proofs.Picking.{one_if_false}
use Rattle.bayou_connect.proofs.plan.are_below.Goals as goal

pub returns-clause-some : goal.returns-clause-some
returns-clause-some c =
    one_if_false (λ (place : ServerPlace). c.args.servers ≤ place.id.index) _ c.args.places.now c.all.result
    (cases_from_all _ _ c.all.result (λ (place : ServerPlace). place.id.index < c.args.servers) (λ (place : ServerPlace). c.args.servers ≤ place.id.index) c.all.ensures.ran (YieldsList-from_slice c.args.places.now cc)
    (λ x q k. search (rules, tests)) (λ x q k. search (rules, tests)))
