use Rattle.std.proofs.Common.{◌≡◌, ◌<◌, ◌∙◌, ap, sym, arith, length, set, refl, subst, false}
use Rattle.bayou_world.specs.declared.reply.Reply.TheVariants as replies
use Rattle.bayou_world.specs.Inner.Tie.{IsTied}
use Rattle.bayou_world.specs.Machine.{Machine}
use Rattle.bayou_world.specs.Steps.{RestartStep}
use Rattle.bayou_world.specs.Faults.{tells_fault}
use Rattle.bayou_world.specs.Inner.Charges.{AreSpent}
use Rattle.bayou_world.proofs.Charging.{one_spent}
use Rattle.bayou_world.proofs.Tied.{stands_at}
use Rattle.bayou_world.proofs.TiedServers.{put_back, restart_tied}
use Rattle.bayou_world.proofs.state.State.restart.Goals as goal

pub returns-clause-follows : goal.returns-clause-follows
returns-clause-follows c machine good tagged tied =
    let place = c.args.place.index in
    let servers = c.args.self.now.servers.items in
    let old = c.remove.result in
    let after = c.restart-server.result.0 in
    let known : place < length servers = omega (arith, c.if-at-len.false, c.from-at.ensures, c.len.ensures) in
    let inside : c.from-at.result < length servers = omega (arith, known, c.from-at.ensures) in
    let stands = stands_at servers place c.from-at.result old old c.remove.ensures.value c.from-at.ensures refl in
    let put : c.insert.new.self.items ≡ set servers place after =
    c.in-Ok.ensures.items ∙ rw c.remove.ensures.items (put_back servers c.from-at.result after inside) ∙ ap (λ i. set servers i after) c.from-at.ensures in
    subst (λ list. (next : Machine) × RestartStep machine place (replies.Restarted c.restart-server.result.1) next
    × IsTied list c.args.self.now.sessions.items c.args.self.now.offers.items c.args.self.now.items.items c.args.self.now.served.items next) (sym put)
    (restart_tied servers c.args.self.now.sessions.items c.args.self.now.offers.items c.args.self.now.items.items c.args.self.now.served.items machine tied place old after c.restart-server.result.1 known stands c.restart-server.ensures.starts)

pub returns-clause-spent : goal.returns-clause-spent
returns-clause-spent c =
    let place = c.args.place.index in
    let servers = c.args.self.now.servers.items in
    let old = c.remove.result in
    let after = c.restart-server.result.0 in
    let known : place < length servers = omega (arith, c.if-at-len.false, c.from-at.ensures, c.len.ensures) in
    let inside : c.from-at.result < length servers = omega (arith, known, c.from-at.ensures) in
    let stands = stands_at servers place c.from-at.result old old c.remove.ensures.value c.from-at.ensures refl in
    let put : c.insert.new.self.items ≡ set servers place after =
    c.in-Ok.ensures.items ∙ rw c.remove.ensures.items (put_back servers c.from-at.result after inside) ∙ ap (λ i. set servers i after) c.from-at.ensures in
    subst (λ list. AreSpent place (tells_fault (replies.Restarted c.restart-server.result.1)) false servers list) (sym put)
    (one_spent servers place (tells_fault (replies.Restarted c.restart-server.result.1)) false old after known stands c.restart-server.ensures.spends)
