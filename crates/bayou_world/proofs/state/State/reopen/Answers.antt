use Rattle.std.proofs.Common.{◌≡◌, ◌<◌, sym, arith, length, get_or, set, subst, false, ap, ◌∙◌}
use Rattle.std.proofs.lemmas.List.{set-get_or}
use Rattle.bayou_world.specs.declared.world_server.WorldServer.TheVariants.{Running}
use Rattle.bayou_world.specs.declared.reply.Reply.TheVariants as replies
use Rattle.bayou_world.specs.Inner.Tie.{IsTied}
use Rattle.bayou_world.specs.Machine.{Machine}
use Rattle.bayou_world.specs.Steps.{ReopenStep}
use Rattle.bayou_world.specs.Faults.{tells_fault}
use Rattle.bayou_world.specs.Inner.Charges.{AreSpent}
use Rattle.bayou_world.proofs.Charging.{none_spent, one_spent}
use Rattle.bayou_world.proofs.Tied.{stands_at}
use Rattle.bayou_world.proofs.TiedServers.{reopen_tied}
use Rattle.bayou_world.proofs.state.State.reopen.Goals as goal

pub returns-clause-follows : goal.returns-clause-follows
returns-clause-follows c machine good tagged tied =
    let place = c.args.place.index in
    let servers = c.args.self.now.servers.items in
    let old = c.in-Running.server in
    let known : place < length servers = omega (arith, c.if-at-len.false, c.from-at.ensures, c.len.ensures) in
    let stands : get_or servers place (Running old) ≡ Running old =
    stands_at servers place c.from-at.result c.index_mut.result.now (Running old) c.index_mut.ensures.value c.from-at.ensures c.in-Running.is in
    subst (λ n. (next : Machine) × ReopenStep machine place (replies.Reopened c.reopen_server.result) next
    × IsTied (set servers n (Running c.reopen_server.new.server)) c.args.self.now.sessions.items c.args.self.now.offers.items c.args.self.now.items.items c.args.self.now.served.items next) (sym c.from-at.ensures)
    (reopen_tied servers c.args.self.now.sessions.items c.args.self.now.offers.items c.args.self.now.items.items c.args.self.now.served.items machine tied place old c.reopen_server.new.server c.reopen_server.result known stands
    c.reopen_server.ensures.reopens c.reopen_server.ensures.answer c.reopen_server.ensures.honest)

pub returns-then-at-len-clause-spent : goal.returns-then-at-len-clause-spent
returns-then-at-len-clause-spent c = none_spent c.args.self.now.servers.items c.args.place.index

pub returns-in_default-clause-spent : goal.returns-in_default-clause-spent
returns-in_default-clause-spent c =
    let servers = c.args.self.now.servers.items in
    let found = c.index_mut.result.now in
    let kept : set servers c.from-at.result found ≡ servers = ap (set servers c.from-at.result) c.index_mut.ensures.value ∙ set-get_or servers c.from-at.result found in
    subst (AreSpent c.args.place.index false false servers) (sym kept) (none_spent servers c.args.place.index)

pub returns-clause-spent : goal.returns-clause-spent
returns-clause-spent c =
    let place = c.args.place.index in
    let servers = c.args.self.now.servers.items in
    let old = c.in-Running.server in
    let known : place < length servers = omega (arith, c.if-at-len.false, c.from-at.ensures, c.len.ensures) in
    let stands : get_or servers place (Running old) ≡ Running old =
    stands_at servers place c.from-at.result c.index_mut.result.now (Running old) c.index_mut.ensures.value c.from-at.ensures c.in-Running.is in
    subst (λ n. AreSpent place (tells_fault (replies.Reopened c.reopen_server.result)) false servers (set servers n (Running c.reopen_server.new.server))) (sym c.from-at.ensures)
    (one_spent servers place (tells_fault (replies.Reopened c.reopen_server.result)) false (Running old) (Running c.reopen_server.new.server) known stands c.reopen_server.ensures.spends)
