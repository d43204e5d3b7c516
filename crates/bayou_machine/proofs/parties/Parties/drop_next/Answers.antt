use Rattle.std.proofs.Common.{◌≡◌, ap, refl}
use Rattle.bayou_machine.specs.Standing.{Standing}
use Rattle.bayou_machine.proofs.Seated.{found_seat}
use Rattle.bayou_machine.proofs.parties.Parties.drop_next.Goals as goal

pub returns : goal.returns
returns c =
    let seats = c.self.inside.seats.items in
    let same : seats ≡ c.args.self.now.sessions = ap (λ (standing : Standing). standing.sessions) c.self.view_is in
    let found = found_seat c.args.self.now seats c.self.inside.plan.count c.from.result c.args.who c.index_mut.result.now same c.self.invariant.1 c.from.ensures c.index_mut.ensures.value in
    record {
      name = c.args.who;
      is_named = refl;
      answered = refl;
      only = rw (found, ← c.self.view_is, c.from.ensures, c.drop_next.ensures) refl;
    }
