use Rattle.std.proofs.Common.{◌≡◌, ◌∙◌, ◌+◌, List, subst, sym, refl, arith}
use Rattle.std.proofs.lemmas.Option.{get_or_from_slice_get}
use Rattle.bayou_machine.specs.declared.script_server.ScriptServer.{ScriptServer}
use Rattle.bayou_machine.specs.Seats.{new_seat}
use Rattle.bayou_machine.specs.Standing.{nothing_asked}
use Rattle.bayou_machine.proofs.Begun.{BegunSoFar, BegunSoFar-push}
use Rattle.bayou_machine.proofs.Seated.{unopened_seats}
use Rattle.bayou_machine.proofs.parties.Parties.new.Goals as goal

pub loop-index-preserved : goal.loop-index-preserved
loop-index-preserved c =
    let plan = c.args.plan in
    subst (λ (replicas : List ScriptServer). BegunSoFar plan.count plan.limit (c.loop-index.index + 1) replicas) (sym c.in_ok-push.ensures.items)
    (BegunSoFar-push plan.count plan.limit c.loop-index.index c.loop-index.servers.items c.in_ok-begin.field-0 c.loop-index.invariant c.in_ok-begin.ensures.begun)

pub invariant_of-result : goal.invariant_of-result
invariant_of-result c =
    let far : c.loop-index.index ≡ c.args.plan.count = omega arith in
    (c.loop-index.invariant.one_each ∙ far, unopened_seats c.args.plan.count c.in_ok-unopened.field-0.items c.in_ok-unopened.ensures)

pub returns-clause-begun : goal.returns-clause-begun
returns-clause-begun c =
    let far : c.loop-index.index ≡ c.args.plan.count = omega arith in
    let begun = subst (λ done. BegunSoFar c.args.plan.count c.args.plan.limit done c.loop-index.servers.items) far c.loop-index.invariant in
    record {
      count_is = refl;
      limit_is = refl;
      one_each = begun.one_each;
      started = begun.started;
      one_seat_each = c.in_ok-unopened.ensures.one_each;
      none_open = λ who. get_or_from_slice_get c.in_ok-unopened.field-0.items who.index (new_seat who nothing_asked) (new_seat who nothing_asked) (c.in_ok-unopened.ensures.new who who.in_range);
    }
