use Rattle.std.proofs.Common.{◌≡◌, ◌<◌, Some, None, ap, sym, ◌∙◌, arith, length, get_or, set, refl, subst}
use Rattle.std.proofs.lemmas.List.{get_or_default}
use Rattle.bayou_world.specs.declared.world_session.WorldSession.{WorldSession}
use Rattle.bayou_world.specs.Inner.Tie.{IsTied, seat}
use Rattle.bayou_world.specs.Machine.{Machine}
use Rattle.bayou_world.specs.Steps.{LoseStep}
use Rattle.bayou_world.specs.declared.reply.Reply.TheVariants as replies
use Rattle.bayou_world.proofs.TiedFlights.{lose_tied, some_flight}
use Rattle.bayou_world.proofs.state.State.lose.Goals as goal

pub returns-then-lose-clause-follows : goal.returns-then-lose-clause-follows
returns-then-lose-clause-follows c machine good tagged tied =
    let who = c.args.who.index in
    let servers = c.args.self.now.servers.items in
    let world_sessions = c.args.self.now.sessions.items in
    let inside : who < length world_sessions = omega (arith, c.if-seat-len.false, c.from-seat.ensures, c.len.ensures) in
    let at : seat world_sessions who ≡ Some c.in-Some.session =
    get_or_default world_sessions who None c.index_mut.result.now inside ∙ ap (λ n. get_or world_sessions n c.index_mut.result.now) (sym c.from-seat.ensures) ∙ sym c.index_mut.ensures.value ∙ c.in-Some.is in
    let some = some_flight c.in-Some.session.flight (c.if-lose.ensures.told.0 refl) in
    subst (λ (world_session : WorldSession). (next : Machine) × LoseStep machine who replies.Dropped next
    × IsTied servers (set world_sessions c.from-seat.result (Some world_session)) c.args.self.now.offers.items c.args.self.now.items.items c.args.self.now.served.items next) (sym c.if-lose.ensures.lost)
    (subst (λ n. (next : Machine) × LoseStep machine who replies.Dropped next
    × IsTied servers (set world_sessions n (Some (record c.in-Some.session { flight = None }))) c.args.self.now.offers.items c.args.self.now.items.items c.args.self.now.served.items next) (sym c.from-seat.ensures)
    (lose_tied servers world_sessions c.args.self.now.offers.items c.args.self.now.items.items c.args.self.now.served.items machine good tied who c.in-Some.session some.0 c.args.who.in_range at some.1))
