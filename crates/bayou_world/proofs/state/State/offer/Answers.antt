use Rattle.std.proofs.Common.{◌≡◌, ◌<◌, ◌≤◌, ◌∷◌, [], ◌++◌, sym, arith, length, get_or, subst}
use Rattle.bayou_world.specs.declared.world_server.WorldServer.TheVariants.{Running}
use Rattle.bayou_base.specs.declared.limits.TheConstants.{MAX_NUMBER}
use Rattle.bayou_world.specs.Inner.Tie.{IsTied}
use Rattle.bayou_world.specs.Machine.{Machine}
use Rattle.bayou_world.specs.Steps.{OfferStep}
use Rattle.bayou_world.specs.declared.reply.Reply.TheVariants as replies
use Rattle.bayou_world.proofs.Tied.{stands_at}
use Rattle.bayou_world.proofs.TiedItems.{offer_tied}
use Rattle.bayou_world.proofs.state.State.offer.Goals as goal

pub returns-clause-follows : goal.returns-clause-follows
returns-clause-follows c machine good tagged tied =
    let place = c.args.place.index in
    let servers = c.args.self.now.servers.items in
    let offers = c.args.self.now.offers.items in
    let server = c.in-Running.server in
    let known : place < length servers = omega (arith, c.if-at-len.false, c.from-at.ensures, c.len.ensures) in
    let few : length offers ≤ MAX_NUMBER = omega (arith, c.if-number.false, c.len-number.ensures) in
    let number : c.len-number.result ≡ length offers = omega (arith, c.len-number.ensures) in
    let stands : get_or servers place (Running server) ≡ Running server =
    stands_at servers place c.from-at.result c.index.result.now (Running server) c.index.ensures c.from-at.ensures c.in-Running.is in
    subst (λ list. (next : Machine) × OfferStep machine place (replies.Kept c.len-number.result) next
    × IsTied servers c.args.self.now.sessions.items list c.args.self.now.items.items c.args.self.now.served.items next) (sym c.in_ok-push.ensures.items)
    (subst (λ n. (next : Machine) × OfferStep machine place (replies.Kept n) next
    × IsTied servers c.args.self.now.sessions.items (offers ++ c.vector.result ∷ []) c.args.self.now.items.items c.args.self.now.served.items next) (sym number)
    (offer_tied servers c.args.self.now.sessions.items offers c.args.self.now.items.items c.args.self.now.served.items machine tied place server c.vector.result known stands few c.vector.ensures))
