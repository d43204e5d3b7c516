use Rattle.std.proofs.Common.{◌≡◌, ◌<◌, ◌≤◌, All, Any, List, MatchOption, rules, subst}
use Rattle.bayou_connect.specs.Plans.{IsLeast}
use Rattle.bayou_connect.specs.declared.plan.ServerPlace.{ServerPlace}
use Rattle.bayou_connect.proofs.Least.{some_below}
use Rattle.bayou_connect.proofs.Naming.{too_few}
use Rattle.bayou_connect.proofs.plan.SessionPlan.new.Goals as goal

pub returns-then-not-are_below-clause-refused : goal.returns-then-not-are_below-clause-refused
returns-then-not-are_below-clause-refused c =
    let servers = c.count_of-servers.result in
    too_few c.args.count servers c.args.servers.now c.in_ok-places.places.items
    (subst (λ (places : List ServerPlace). MatchOption c.args.count (IsLeast servers places) (λ number. servers ≡ number)) c.deref.ensures.value c.count_of-servers.ensures.count)
    (subst (Any (λ (place : ServerPlace). servers ≤ place.id.index)) c.deref-2.ensures.value (c.are_below.ensures.some c.if-not-are_below.true)) c.in_ok-places.ensures.said

pub invariant_of-result-clause-among : goal.invariant_of-result-clause-among
invariant_of-result-clause-among c =
    subst (All (λ (place : ServerPlace). place.id.index < c.count_of-servers.result)) c.deref-2.ensures.value (c.are_below.ensures.all c.if-not-are_below.false)

pub invariant_of-result-clause-number : goal.invariant_of-result-clause-number
invariant_of-result-clause-number c = (some_below c.count_of-servers.result c.in_ok-places.places.items (search rules) (search rules), c.count_of-servers.ensures.within)
