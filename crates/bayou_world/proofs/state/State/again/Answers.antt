use Rattle.std.proofs.Common.{◌≡◌, ◌<◌, Some, None, ap, sym, ◌∙◌, arith, length, get_or, set, refl, subst, false}
use Rattle.std.proofs.lemmas.List.{get_or_default}
use Rattle.bayou_world.specs.declared.event.Event.TheVariants as events
use Rattle.bayou_world.specs.declared.reply.Reply.TheVariants as replies
use Rattle.bayou_world.specs.declared.world_server.WorldServer.TheVariants.{Running}
use Rattle.bayou_world.specs.declared.world_session.Asked.{Asked}
use Rattle.bayou_world.specs.Faults.{has_doubt}
use Rattle.bayou_world.specs.Inner.Charges.{AreSpent}
use Rattle.bayou_world.specs.Inner.Tie.{IsTied, seat}
use Rattle.bayou_world.specs.Machine.{Machine}
use Rattle.bayou_world.specs.Steps.{AgainStep}
use Rattle.bayou_world.proofs.Charging.{one_spent, spent_as}
use Rattle.bayou_world.proofs.Tied.{stands_at}
use Rattle.bayou_world.proofs.TiedAgains.{Repeats, again_tied, some_kept}
use Rattle.bayou_world.proofs.state.State.again.Goals as goal

pub returns-in-Some-2-clause-follows : goal.returns-in-Some-2-clause-follows
returns-in-Some-2-clause-follows c machine good tagged tied =
    let who = c.args.who.index in
    let place = c.in-Some-asked_at.place in
    let servers = c.args.self.now.servers.items in
    let world_sessions = c.args.self.now.sessions.items in
    let offers = c.args.self.now.offers.items in
    let items = c.args.self.now.items.items in
    let served = c.args.self.now.served.items in
    let session = c.in-Some.session in
    let server = c.in-Running.server in
    let answer = c.in-Some-2.answer in
    let known : place.index < length servers = omega (arith, c.if-at-len.false, c.from-at.ensures, c.len-2.ensures) in
    let inside : who < length world_sessions = omega (arith, c.if-seat-len.false, c.from-seat.ensures, c.len.ensures) in
    let stands : get_or servers place.index (Running server) ≡ Running server =
    stands_at servers place.index c.from-at.result c.index_mut-2.result.now (Running server) c.index_mut-2.ensures.value c.from-at.ensures c.in-Running.is in
    let at : seat world_sessions who ≡ Some session =
    get_or_default world_sessions who None c.index_mut.result.now inside ∙ ap (λ n. get_or world_sessions n c.index_mut.result.now) (sym c.from-seat.ensures) ∙ sym c.index_mut.ensures.value ∙ c.in-Some.is in
    let may = c.if-not-may_begin.ensures.0 refl in
    let repeats = subst (λ r. Repeats session server r c.again.new.self c.again.new.server) c.in-Some-2.is c.in_ok-answer.ensures in
    let kept = some_kept session.asked place (sym c.asked_at.ensures ∙ c.in-Some-asked_at.is) in
    let same : repeats.0 ≡ kept.0 = some_is repeats.0 kept.0 (sym repeats.2 ∙ kept.1) in
    subst (λ n. (next : Machine) × AgainStep machine who (replies.AskedAgain place answer) next
    × IsTied (set servers n (Running c.again.new.server)) (set world_sessions c.from-seat.result (Some c.again.new.self)) offers items served next) (sym c.from-at.ensures)
    (subst (λ n. (next : Machine) × AgainStep machine who (replies.AskedAgain place answer) next
    × IsTied (set servers place.index (Running c.again.new.server)) (set world_sessions n (Some c.again.new.self)) offers items served next) (sym c.from-seat.ensures)
    (again_tied c.write_need_is_what_is_asked.ensures servers world_sessions offers items served machine good tagged tied who place session c.again.new.self server c.again.new.server answer c.args.who.in_range at
    may.0 may.1 known stands repeats.0 repeats.1 repeats.2 repeats.3 (ap (λ (a : Asked). a.server) same ∙ kept.2) repeats.4))
  where
    some_is : (a b : Asked) → Some a ≡ Some b → a ≡ b
    some_is a b both = cc

pub returns-in-Some-2-clause-spent : goal.returns-in-Some-2-clause-spent
returns-in-Some-2-clause-spent c =
    let place = c.in-Some-asked_at.place in
    let servers = c.args.self.now.servers.items in
    let server = c.in-Running.server in
    let answer = c.in-Some-2.answer in
    let known : place.index < length servers = omega (arith, c.if-at-len.false, c.from-at.ensures, c.len-2.ensures) in
    let stands : get_or servers place.index (Running server) ≡ Running server =
    stands_at servers place.index c.from-at.result c.index_mut-2.result.now (Running server) c.index_mut-2.ensures.value c.from-at.ensures c.in-Running.is in
    let repeats = subst (λ r. Repeats c.in-Some.session server r c.again.new.self c.again.new.server) c.in-Some-2.is c.in_ok-answer.ensures in
    let spent : AreSpent place.index (has_doubt answer) false servers (set servers c.from-at.result (Running c.again.new.server)) =
    subst (λ n. AreSpent place.index (has_doubt answer) false servers (set servers n (Running c.again.new.server))) (sym c.from-at.ensures)
    (one_spent servers place.index (has_doubt answer) false (Running server) (Running c.again.new.server) known stands repeats.4.spends) in
    spent_as (events.Again c.args.who) place.index (replies.AskedAgain place answer) servers (set servers c.from-at.result (Running c.again.new.server)) (λ other. refl) spent tt
