use Rattle.std.proofs.Common.{◌≡◌, ◌≢◌, rules, tests}
use Rattle.std.proofs.lemmas.Iterator.{YieldsList-from_slice, cases_from_any}
use Rattle.bayou_connect.specs.declared.plan.ServerPlace.{ServerPlace}
use Rattle.bayou_connect.proofs.Picking.{one_if_true}
use Rattle.bayou_connect.proofs.plan.has_place.Goals as goal

pub returns-clause-some : goal.returns-clause-some
returns-clause-some c =
    one_if_true (λ (place : ServerPlace). place.id.index ≡ c.args.id.index) _ c.args.places.now c.any.result
    (cases_from_any _ _ c.any.result (λ (place : ServerPlace). place.id.index ≡ c.args.id.index) (λ (place : ServerPlace). place.id.index ≢ c.args.id.index) c.any.ensures.ran (YieldsList-from_slice c.args.places.now cc)
    (λ x q k. search (rules, tests)) (λ x q k. search (rules, tests)))
