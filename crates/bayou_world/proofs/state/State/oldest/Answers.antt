use Rattle.std.proofs.Common.{◌≡◌, ◌<◌, Some, None, ap, sym, ◌∙◌, arith, length, get_or, refl}
use Rattle.std.proofs.lemmas.List.{get_or_default}
use Rattle.bayou_world.specs.Inner.Tie.{seat}
use Rattle.bayou_world.proofs.Oldest.{takes_oldest}
use Rattle.bayou_world.proofs.state.State.oldest.Goals as goal

pub returns-clause-follows : goal.returns-clause-follows
returns-clause-follows c =
    let who = c.args.who.index in
    let world_sessions = c.args.self.now.sessions.items in
    let inside : who < length world_sessions = omega (arith, c.if-seat-len.false, c.from-seat.ensures, c.len.ensures) in
    let at : seat world_sessions who ≡ Some c.in-Some.session =
    get_or_default world_sessions who None c.index_mut.result.now inside ∙ ap (λ n. get_or world_sessions n c.index_mut.result.now) (sym c.from-seat.ensures) ∙ sym c.index_mut.ensures.value ∙ c.in-Some.is in
    takes_oldest c.args.self.now _ who c.from-seat.result c.in-Some.session c.oldest.new.self c.oldest.result c.args.who.in_range at c.from-seat.ensures c.oldest.ensures refl refl refl refl refl
