use Rattle.std.proofs.Common.{ap, refl, sym, subst}
use Rattle.bayou_world.specs.declared.event.Event.{Event}
use Rattle.bayou_world.specs.Inner.WorldBooks.{FollowsInBook}
use Rattle.bayou_world.specs.Inner.Charges.{SpendsAt}
use Rattle.bayou_world.specs.Inner.Tie.{Follows}
use Rattle.bayou_world.specs.Steps.{Step, WriteStep}
use Rattle.bayou_world.proofs.Played.{again_beside, collect_beside, deliver_beside, fuse_beside, if_ok, lose_beside, offer_beside, read_beside, reopen_beside, restart_beside, take_beside, write_beside}
use Rattle.bayou_world.proofs.Charging.{beside_spent, spent_as}
use Rattle.bayou_world.proofs.world.step.Goals as goal

pub returns-in-Read-clause-follows : goal.returns-in-Read-clause-follows
returns-in-Read-clause-follows g c =
    subst (λ (e : Event). FollowsInBook c.args.state.now c.args.book.now (λ machine next. Step machine e c.read.result next) c.read.new.self c.args.book.now) (sym c.in-Read.is)
    (read_beside c.args.state.now c.read.new.self c.args.book.now c.in-Read.session.index c.in-Read.server.index c.in-Read.key c.read.result c.read.ensures.follows)

pub returns-in_ok-program-in-Write-clause-follows : goal.returns-in_ok-program-in-Write-clause-follows
returns-in_ok-program-in-Write-clause-follows g c =
    if_ok _ (λ reply. FollowsInBook c.args.state.now c.args.book.now (λ machine next. Step machine c.args.event.now reply next) c.write.new.self c.args.book.now)
    (λ reply follows. subst (λ (e : Event). FollowsInBook c.args.state.now c.args.book.now (λ machine next. Step machine e reply next) c.write.new.self c.args.book.now) (sym c.in-Write.is)
    (write_beside c.args.state.now c.write.new.self c.args.book.now c.in-Write.session.index c.in-Write.server.index c.in-Write.program reply
    (subst (λ program. Follows c.args.state.now (λ machine next. WriteStep machine c.in-Write.session.index c.in-Write.server.index program reply next) c.write.new.self) c.in_ok-program-in-Write.ensures follows)))
    c.write.result c.write.ensures.follows

pub returns-in-Again-clause-follows : goal.returns-in-Again-clause-follows
returns-in-Again-clause-follows g c =
    if_ok _ (λ reply. FollowsInBook c.args.state.now c.args.book.now (λ machine next. Step machine c.args.event.now reply next) c.again.new.self c.args.book.now)
    (λ reply follows. subst (λ (e : Event). FollowsInBook c.args.state.now c.args.book.now (λ machine next. Step machine e reply next) c.again.new.self c.args.book.now) (sym c.in-Again.is)
    (again_beside c.args.state.now c.again.new.self c.args.book.now c.in-Again.session.index reply follows)) c.again.result c.again.ensures.follows

pub returns-in-Deliver-clause-follows : goal.returns-in-Deliver-clause-follows
returns-in-Deliver-clause-follows g c =
    if_ok _ (λ reply. FollowsInBook c.args.state.now c.args.book.now (λ machine next. Step machine c.args.event.now reply next) c.deliver.new.self c.args.book.now)
    (λ reply follows. subst (λ (e : Event). FollowsInBook c.args.state.now c.args.book.now (λ machine next. Step machine e reply next) c.deliver.new.self c.args.book.now) (sym c.in-Deliver.is)
    (deliver_beside c.args.state.now c.deliver.new.self c.args.book.now c.in-Deliver.session.index reply follows)) c.deliver.result c.deliver.ensures.follows

pub returns-in-Lose-clause-follows : goal.returns-in-Lose-clause-follows
returns-in-Lose-clause-follows g c =
    subst (λ (e : Event). FollowsInBook c.args.state.now c.args.book.now (λ machine next. Step machine e c.lose.result next) c.lose.new.self c.args.book.now) (sym c.in-Lose.is)
    (lose_beside c.args.state.now c.lose.new.self c.args.book.now c.in-Lose.session.index c.lose.result c.lose.ensures.follows)

pub returns-in-Offer-clause-follows : goal.returns-in-Offer-clause-follows
returns-in-Offer-clause-follows g c =
    if_ok _ (λ reply. FollowsInBook c.args.state.now c.args.book.now (λ machine next. Step machine c.args.event.now reply next) c.offer.new.self c.args.book.now)
    (λ reply follows. subst (λ (e : Event). FollowsInBook c.args.state.now c.args.book.now (λ machine next. Step machine e reply next) c.offer.new.self c.args.book.now) (sym c.in-Offer.is)
    (offer_beside c.args.state.now c.offer.new.self c.args.book.now c.in-Offer.server.index reply follows)) c.offer.result c.offer.ensures.follows

pub returns-in-Collect-clause-follows : goal.returns-in-Collect-clause-follows
returns-in-Collect-clause-follows g c =
    if_ok _ (λ reply. FollowsInBook c.args.state.now c.args.book.now (λ machine next. Step machine c.args.event.now reply next) c.collect.new.self c.args.book.now)
    (λ reply follows. subst (λ (e : Event). FollowsInBook c.args.state.now c.args.book.now (λ machine next. Step machine e reply next) c.collect.new.self c.args.book.now) (sym c.in-Collect.is)
    (collect_beside c.args.state.now c.collect.new.self c.args.book.now c.in-Collect.server.index c.in-Collect.offer reply follows)) c.collect.result c.collect.ensures.follows

pub returns-in-Take-clause-follows : goal.returns-in-Take-clause-follows
returns-in-Take-clause-follows g c =
    if_ok _ (λ reply. FollowsInBook c.args.state.now c.args.book.now (λ machine next. Step machine c.args.event.now reply next) c.take.new.self c.args.book.now)
    (λ reply follows. subst (λ (e : Event). FollowsInBook c.args.state.now c.args.book.now (λ machine next. Step machine e reply next) c.take.new.self c.args.book.now) (sym c.in-Take.is)
    (take_beside c.args.state.now c.take.new.self c.args.book.now c.in-Take.server.index c.in-Take.item reply follows)) c.take.result c.take.ensures.follows

pub returns-in-Fuse-clause-follows : goal.returns-in-Fuse-clause-follows
returns-in-Fuse-clause-follows g c =
    subst (λ (e : Event). FollowsInBook c.args.state.now c.args.book.now (λ machine next. Step machine e c.fuse.result next) c.fuse.new.self c.args.book.now) (sym c.in-Fuse.is)
    (fuse_beside c.args.state.now c.fuse.new.self c.args.book.now c.in-Fuse.server.index c.in-Fuse.call c.fuse.result c.fuse.ensures.follows)

pub returns-in-Reopen-clause-follows : goal.returns-in-Reopen-clause-follows
returns-in-Reopen-clause-follows g c =
    subst (λ (e : Event). FollowsInBook c.args.state.now c.args.book.now (λ machine next. Step machine e c.reopen.result next) c.reopen.new.self c.args.book.now) (sym c.in-Reopen.is)
    (reopen_beside c.args.state.now c.reopen.new.self c.args.book.now c.in-Reopen.server.index c.reopen.result c.reopen.ensures.follows)

pub returns-in-Restart-clause-follows : goal.returns-in-Restart-clause-follows
returns-in-Restart-clause-follows g c =
    subst (λ (e : Event). FollowsInBook c.args.state.now c.args.book.now (λ machine next. Step machine e c.restart.result next) c.restart.new.self c.args.book.now) (sym c.in-Restart.is)
    (restart_beside c.args.state.now c.restart.new.self c.args.book.now c.in-Restart.server.index c.restart.result c.restart.ensures.follows)

pub returns-in-File-clause-follows : goal.returns-in-File-clause-follows
returns-in-File-clause-follows g c =
    subst (λ (e : Event). FollowsInBook c.args.state.now c.args.book.now (λ machine next. Step machine e c.file.result next) c.file.new.state c.file.new.self) (sym c.in-File.is) c.file.ensures.follows

pub returns-in-Read-clause-spent : goal.returns-in-Read-clause-spent
returns-in-Read-clause-spent g c =
    subst (λ (e : Event). SpendsAt e c.read.result c.args.state.now.servers.items c.read.new.self.servers.items) (sym c.in-Read.is)
    (beside_spent _ c.read.result c.args.state.now.servers.items c.read.new.self.servers.items (λ place. refl) (ap (λ list. list.items) c.read.ensures.same) tt)

pub returns-in_ok-program-in-Write-clause-spent : goal.returns-in_ok-program-in-Write-clause-spent
returns-in_ok-program-in-Write-clause-spent g c =
    if_ok _ (λ reply. SpendsAt c.args.event.now reply c.args.state.now.servers.items c.write.new.self.servers.items)
    (λ reply spent. subst (λ (e : Event). SpendsAt e reply c.args.state.now.servers.items c.write.new.self.servers.items) (sym c.in-Write.is)
    (spent_as _ c.in-Write.server.index reply c.args.state.now.servers.items c.write.new.self.servers.items (λ other. refl) spent tt)) c.write.result c.write.ensures.spent

pub returns-in-Again-clause-spent : goal.returns-in-Again-clause-spent
returns-in-Again-clause-spent g c =
    if_ok _ (λ reply. SpendsAt c.args.event.now reply c.args.state.now.servers.items c.again.new.self.servers.items)
    (λ reply spent. subst (λ (e : Event). SpendsAt e reply c.args.state.now.servers.items c.again.new.self.servers.items) (sym c.in-Again.is) spent) c.again.result c.again.ensures.spent

pub returns-in-Deliver-clause-spent : goal.returns-in-Deliver-clause-spent
returns-in-Deliver-clause-spent g c =
    if_ok _ (λ reply. SpendsAt c.args.event.now reply c.args.state.now.servers.items c.deliver.new.self.servers.items)
    (λ reply same. subst (λ (e : Event). SpendsAt e reply c.args.state.now.servers.items c.deliver.new.self.servers.items) (sym c.in-Deliver.is)
    (beside_spent _ reply c.args.state.now.servers.items c.deliver.new.self.servers.items (λ place. refl) (ap (λ list. list.items) same) tt)) c.deliver.result c.deliver.ensures.same

pub returns-in-Lose-clause-spent : goal.returns-in-Lose-clause-spent
returns-in-Lose-clause-spent g c =
    subst (λ (e : Event). SpendsAt e c.lose.result c.args.state.now.servers.items c.lose.new.self.servers.items) (sym c.in-Lose.is)
    (beside_spent _ c.lose.result c.args.state.now.servers.items c.lose.new.self.servers.items (λ place. refl) (ap (λ list. list.items) c.lose.ensures.same) tt)

pub returns-in-Offer-clause-spent : goal.returns-in-Offer-clause-spent
returns-in-Offer-clause-spent g c =
    if_ok _ (λ reply. SpendsAt c.args.event.now reply c.args.state.now.servers.items c.offer.new.self.servers.items)
    (λ reply same. subst (λ (e : Event). SpendsAt e reply c.args.state.now.servers.items c.offer.new.self.servers.items) (sym c.in-Offer.is)
    (beside_spent _ reply c.args.state.now.servers.items c.offer.new.self.servers.items (λ place. refl) (ap (λ list. list.items) same) tt)) c.offer.result c.offer.ensures.same

pub returns-in-Collect-clause-spent : goal.returns-in-Collect-clause-spent
returns-in-Collect-clause-spent g c =
    if_ok _ (λ reply. SpendsAt c.args.event.now reply c.args.state.now.servers.items c.collect.new.self.servers.items)
    (λ reply same. subst (λ (e : Event). SpendsAt e reply c.args.state.now.servers.items c.collect.new.self.servers.items) (sym c.in-Collect.is)
    (beside_spent _ reply c.args.state.now.servers.items c.collect.new.self.servers.items (λ place. refl) (ap (λ list. list.items) same) tt)) c.collect.result c.collect.ensures.same

pub returns-in-Take-clause-spent : goal.returns-in-Take-clause-spent
returns-in-Take-clause-spent g c =
    if_ok _ (λ reply. SpendsAt c.args.event.now reply c.args.state.now.servers.items c.take.new.self.servers.items)
    (λ reply spent. subst (λ (e : Event). SpendsAt e reply c.args.state.now.servers.items c.take.new.self.servers.items) (sym c.in-Take.is)
    (spent_as _ c.in-Take.server.index reply c.args.state.now.servers.items c.take.new.self.servers.items (λ other. refl) spent tt)) c.take.result c.take.ensures.spent

pub returns-in-Fuse-clause-spent : goal.returns-in-Fuse-clause-spent
returns-in-Fuse-clause-spent g c =
    subst (λ (e : Event). SpendsAt e c.fuse.result c.args.state.now.servers.items c.fuse.new.self.servers.items) (sym c.in-Fuse.is)
    (spent_as _ c.in-Fuse.server.index c.fuse.result c.args.state.now.servers.items c.fuse.new.self.servers.items (λ other. refl) c.fuse.ensures.spent c.fuse.ensures.waits)

pub returns-in-Reopen-clause-spent : goal.returns-in-Reopen-clause-spent
returns-in-Reopen-clause-spent g c =
    subst (λ (e : Event). SpendsAt e c.reopen.result c.args.state.now.servers.items c.reopen.new.self.servers.items) (sym c.in-Reopen.is)
    (spent_as _ c.in-Reopen.server.index c.reopen.result c.args.state.now.servers.items c.reopen.new.self.servers.items (λ other. refl) c.reopen.ensures.spent tt)

pub returns-in-Restart-clause-spent : goal.returns-in-Restart-clause-spent
returns-in-Restart-clause-spent g c =
    subst (λ (e : Event). SpendsAt e c.restart.result c.args.state.now.servers.items c.restart.new.self.servers.items) (sym c.in-Restart.is)
    (spent_as _ c.in-Restart.server.index c.restart.result c.args.state.now.servers.items c.restart.new.self.servers.items (λ other. refl) c.restart.ensures.spent tt)

pub returns-in-File-clause-spent : goal.returns-in-File-clause-spent
returns-in-File-clause-spent g c =
    subst (λ (e : Event). SpendsAt e c.file.result c.args.state.now.servers.items c.file.new.state.servers.items) (sym c.in-File.is)
    (beside_spent _ c.file.result c.args.state.now.servers.items c.file.new.state.servers.items (λ place. refl) (ap (λ list. list.items) c.file.ensures.same) tt)
