use Rattle.std.proofs.Common.{◌<◌, sym, arith, length, set, refl, subst}
use Rattle.bayou_world.specs.declared.reply.Reply.TheVariants as replies
use Rattle.bayou_world.specs.Inner.Charges.{Waits}
use Rattle.bayou_world.specs.Inner.Tie.{IsTied}
use Rattle.bayou_world.specs.Machine.{Machine}
use Rattle.bayou_world.specs.Steps.{FuseStep}
use Rattle.bayou_world.proofs.Charging.{waits_there}
use Rattle.bayou_world.proofs.Tied.{stands_at}
use Rattle.bayou_world.proofs.TiedServers.{fuse_tied}
use Rattle.bayou_world.proofs.state.State.fuse.Goals as goal

pub returns-clause-follows : goal.returns-clause-follows
returns-clause-follows c machine good tagged tied =
    let place = c.args.place.index in
    let servers = c.args.self.now.servers.items in
    let old = c.index_mut.result.now in
    let known : place < length servers = omega (arith, c.if-at-len.false, c.from-at.ensures, c.len.ensures) in
    let some : 0 < c.args.call = omega (arith, c.if-call-eq0.false) in
    let stands = stands_at servers place c.from-at.result old old c.index_mut.ensures.value c.from-at.ensures refl in
    subst (λ n. (next : Machine) × FuseStep machine place c.args.call replies.Fused next
    × IsTied (set servers n c.fuse.new.self) c.args.self.now.sessions.items c.args.self.now.offers.items c.args.self.now.items.items c.args.self.now.served.items next) (sym c.from-at.ensures)
    (fuse_tied servers c.args.self.now.sessions.items c.args.self.now.offers.items c.args.self.now.items.items c.args.self.now.served.items machine tied place c.args.call old c.fuse.new.self known stands some
    c.fuse.ensures.core c.fuse.ensures.runs c.fuse.ensures.kept)

pub returns-clause-waits : goal.returns-clause-waits
returns-clause-waits c =
    let place = c.args.place.index in
    let servers = c.args.self.now.servers.items in
    let old = c.index_mut.result.now in
    let known : place < length servers = omega (arith, c.if-at-len.false, c.from-at.ensures, c.len.ensures) in
    let stands = stands_at servers place c.from-at.result old old c.index_mut.ensures.value c.from-at.ensures refl in
    subst (λ n. Waits place c.args.call c.args.kept replies.Fused servers (set servers n c.fuse.new.self)) (sym c.from-at.ensures)
    (waits_there servers place c.args.call c.args.kept replies.Fused old c.fuse.new.self known stands c.fuse.ensures.device)
