use Rattle.std.proofs.Common.{◌≡◌, ◌<◌, ap, arith, refl, subst, sym}
use Rattle.bayou_machine.specs.ScriptServer.{IsRead}
use Rattle.bayou_machine.specs.Seats.{Seat}
use Rattle.bayou_machine.specs.Standing.{Standing}
use Rattle.bayou_machine.proofs.Seated.{asked_within, found_seat, put_seat}
use Rattle.bayou_machine.proofs.Standing.{stands_at}
use Rattle.bayou_machine.proofs.Tagged.{read_within}
use Rattle.bayou_machine.proofs.parties.Parties.read.Goals as goal

pub invariant_of-self : goal.invariant_of-self
invariant_of-self c =
    let seat = c.index_mut-seat.result.now in
    let old = asked_within c.self.inside.seats.items c.self.inside.plan.count c.from.result seat c.self.invariant.1 (omega (arith, c.from.ensures, c.args.who.in_range)) c.index_mut-seat.ensures.value in (
      c.self.invariant.0,
      put_seat c.self.inside.plan.count c.self.inside.seats.items c.from.result c.read.new.seat c.self.invariant.1
          (read_within (λ asked. asked.server < c.self.inside.plan.count) c.args.who c.args.key c.index.result.now seat c.read.new.seat c.read.result c.read.ensures old),
    )

pub returns : goal.returns
returns c =
    let place = c.args.server.index in
    let seats = c.self.inside.seats.items in
    let same : seats ≡ c.args.self.now.sessions = ap (λ (standing : Standing). standing.sessions) c.self.view_is in
    let count : c.self.inside.plan.count ≡ c.args.self.now.count = ap (λ (standing : Standing). standing.count) c.self.view_is in
    let within : place < c.self.inside.plan.count = omega (arith, c.requires) in
    let found = found_seat c.args.self.now seats c.self.inside.plan.count c.from.result c.args.who c.index_mut-seat.result.now same c.self.invariant.1 c.from.ensures c.index_mut-seat.ensures.value in
    record {
      name = c.args.who;
      is_named = refl;
      replica = c.index.result.now;
      now = c.read.new.seat;
      stands = stands_at c.self.inside.servers.items c.args.self.now.servers c.self.inside.plan.count place c.from-2.result c.index.result.now
          (ap (λ standing. standing.servers) c.self.view_is) c.self.invariant.0 c.from-2.ensures within c.index.ensures;
      does = subst (λ (seat : Seat). IsRead c.args.who c.args.key c.index.result.now seat c.read.result c.read.new.seat) (sym found) c.read.ensures;
      only = rw (← c.self.view_is, c.from.ensures) refl;
    }
