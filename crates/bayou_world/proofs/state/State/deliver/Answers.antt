use Rattle.std.proofs.Common.{◌≡◌, ◌<◌, ◌++◌, Some, None, ap, sym, ◌∙◌, arith, length, get_or, set, subst}
use Rattle.std.proofs.lemmas.List.{get_or_default}
use Rattle.bayou_world.specs.Inner.WorldSessions.{Hears, served_entries}
use Rattle.bayou_world.specs.Inner.Tie.{IsTied, seat}
use Rattle.bayou_world.specs.Machine.{Machine}
use Rattle.bayou_world.specs.Steps.{DeliverStep}
use Rattle.bayou_world.specs.declared.reply.Reply.TheVariants as replies
use Rattle.bayou_world.proofs.TiedFlights.{deliver_tied}
use Rattle.bayou_world.proofs.state.State.deliver.Goals as goal

pub returns-clause-follows : goal.returns-clause-follows
returns-clause-follows c machine good tagged tied =
    let who = c.args.who.index in
    let servers = c.args.self.now.servers.items in
    let world_sessions = c.args.self.now.sessions.items in
    let inside : who < length world_sessions = omega (arith, c.if-seat-len.false, c.from-seat.ensures, c.len.ensures) in
    let at : seat world_sessions who ≡ Some c.in-Some.session =
    get_or_default world_sessions who None c.index_mut.result.now inside ∙ ap (λ n. get_or world_sessions n c.index_mut.result.now) (sym c.from-seat.ensures) ∙ sym c.index_mut.ensures.value ∙ c.in-Some.is in
    let hears : Hears c.in-Some.session (Some c.in-Some-2.entry) c.hear.new.self = subst (λ h. Hears c.in-Some.session h c.hear.new.self) c.in-Some-2.is c.in_ok-entry.ensures in
    subst (λ list. (next : Machine) × DeliverStep machine who replies.Delivered next
    × IsTied servers (set world_sessions c.from-seat.result (Some c.hear.new.self)) c.args.self.now.offers.items c.args.self.now.items.items list next) (sym c.in_ok-keep_served.ensures)
    (subst (λ n. (next : Machine) × DeliverStep machine who replies.Delivered next
    × IsTied servers (set world_sessions n (Some c.hear.new.self)) c.args.self.now.offers.items c.args.self.now.items.items (c.args.self.now.served.items ++ served_entries c.in-Some-2.entry.what c.in-Some-2.entry) next) (sym c.from-seat.ensures)
    (deliver_tied servers world_sessions c.args.self.now.offers.items c.args.self.now.items.items c.args.self.now.served.items machine good tied who c.in-Some.session c.hear.new.self c.in-Some-2.entry c.args.who.in_range at hears))
