use Rattle.std.proofs.Common.{◌≡◌, ◌<◌, ◌∙◌, List, Option, ap, arith, length-set, refl, subst, sym}
use Rattle.std.specs.Option.{option_map}
use Rattle.bayou_base.specs.declared.server.ServerId.{ServerId}
use Rattle.bayou_machine.specs.ScriptServer.{IsWrittenAgain}
use Rattle.bayou_machine.specs.Seats.{Seat}
use Rattle.bayou_machine.specs.Standing.{Standing}
use Rattle.bayou_machine.proofs.Seated.{again_step, asked_nowhere, asked_somewhere, asked_there, asked_within, found_asked, found_seat, none_step, put_seat, same_seats}
use Rattle.bayou_machine.proofs.Standing.{stands_at}
use Rattle.bayou_machine.proofs.Tagged.{again_kept, each_asked}
use Rattle.bayou_machine.proofs.parties.Parties.again.Goals as goal

pub returns-in_default : goal.returns-in_default
returns-in_default c =
    let seats = c.self.inside.seats.items in
    let same : seats ≡ c.args.self.now.sessions = ap (λ (standing : Standing). standing.sessions) c.self.view_is in
    let found = found_asked c.args.self.now seats c.self.inside.plan.count c.from.result c.args.who c.index_mut-seat.result.now same c.self.invariant.1 c.from.ensures c.index_mut-seat.ensures.value in
    let none = found ∙ asked_nowhere c.index_mut-seat.result.now.asked c.asked_at.result c.in_default.is c.asked_at.ensures in
    none_step c.args.self.now _ c.args.who _ none
    (ap (λ (list : List Seat). record { count = c.self.inside.plan.count; limit = c.self.inside.plan.limit; servers = c.self.inside.servers.items; sessions = list })
    (same_seats seats c.from.result c.index_mut-seat.result.now c.index_mut-seat.ensures.value) ∙ c.self.view_is)

pub index_mut-requires : goal.index_mut-requires
index_mut-requires c =
    let old = asked_within c.self.inside.seats.items c.self.inside.plan.count c.from.result c.index_mut-seat.result.now c.self.invariant.1 (omega (arith, c.from.ensures, c.args.who.in_range)) c.index_mut-seat.ensures.value in
    let there = asked_there c.index_mut-seat.result.now.asked c.in-Some.server c.self.inside.plan.count (ap (λ (told : Option ServerId). option_map (λ (s : ServerId). s.index) told) (sym c.in-Some.is) ∙ c.asked_at.ensures) old in
    omega (arith, there, c.from-2.ensures, c.self.invariant.0)

pub invariant_of-self-2 : goal.invariant_of-self-2
invariant_of-self-2 c =
    let seat = c.index_mut-seat.result.now in
    let told = ap (λ (told : Option ServerId). option_map (λ (s : ServerId). s.index) told) (sym c.in-Some.is) ∙ c.asked_at.ensures in
    let old = asked_within c.self.inside.seats.items c.self.inside.plan.count c.from.result seat c.self.invariant.1 (omega (arith, c.from.ensures, c.args.who.in_range)) c.index_mut-seat.ensures.value in (
      length-set c.self.inside.servers.items c.from-2.result c.again.new.self ∙ c.self.invariant.0,
      put_seat c.self.inside.plan.count c.self.inside.seats.items c.from.result c.again.new.seat c.self.invariant.1
          (again_kept (λ asked. asked.server < c.self.inside.plan.count) c.args.who c.index_mut.result.now c.again.new.self seat c.again.new.seat c.again.result seat.asked
          (asked_somewhere seat.asked c.in-Some.server told) c.again.ensures old),
    )

pub returns : goal.returns
returns c =
    let place = c.in-Some.server.index in
    let seat = c.index_mut-seat.result.now in
    let seats = c.self.inside.seats.items in
    let same : seats ≡ c.args.self.now.sessions = ap (λ (standing : Standing). standing.sessions) c.self.view_is in
    let told = ap (λ (told : Option ServerId). option_map (λ (s : ServerId). s.index) told) (sym c.in-Some.is) ∙ c.asked_at.ensures in
    let old = asked_within seats c.self.inside.plan.count c.from.result seat c.self.invariant.1 (omega (arith, c.from.ensures, c.args.who.in_range)) c.index_mut-seat.ensures.value in
    let within : place < c.self.inside.plan.count = asked_there seat.asked c.in-Some.server c.self.inside.plan.count told old in
    let found = found_seat c.args.self.now seats c.self.inside.plan.count c.from.result c.args.who seat same c.self.invariant.1 c.from.ensures c.index_mut-seat.ensures.value in
    let asked = found_asked c.args.self.now seats c.self.inside.plan.count c.from.result c.args.who seat same c.self.invariant.1 c.from.ensures c.index_mut-seat.ensures.value in
    again_step c.args.self.now _ c.args.who c.in-Some.server _ seat.asked c.again.result asked told
    (each_asked seat.asked _ _
    (λ a written. record {
      name = c.args.who;
      is_named = refl;
      before = c.index_mut.result.now;
      after = c.again.new.self;
      now = c.again.new.seat;
      stands = stands_at c.self.inside.servers.items c.args.self.now.servers c.self.inside.plan.count place c.from-2.result c.index_mut.result.now
          (ap (λ standing. standing.servers) c.self.view_is) c.self.invariant.0 c.from-2.ensures within c.index_mut.ensures.value;
      does = subst (λ (s : Seat). IsWrittenAgain c.args.who a.program c.index_mut.result.now s c.again.result c.again.new.self c.again.new.seat) (sym found) written;
      only = rw (← c.self.view_is, c.from.ensures, c.from-2.ensures) refl;
    })
    c.again.ensures)
