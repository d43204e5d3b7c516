use Rattle.std.proofs.Common.{◌+◌, ◌<◌, ◌≤◌, arith, length, take, sym, subst}
use Rattle.std.proofs.lemmas.List.{take_all}
use Rattle.bayou_world.specs.Inner.Beginning.{SoFar}
use Rattle.bayou_device.specs.Device.{greatest_count}
use Rattle.bayou_world.specs.Inner.Charges.{AreCharged}
use Rattle.bayou_world.proofs.Charging.{charged_step}
use Rattle.bayou_world.proofs.Played.{SoFar-more}
use Rattle.bayou_world.proofs.world.play.Goals as goal

pub loop-event-preserved : goal.loop-event-preserved
loop-event-preserved g c =
    let events = c.args.events.now in
    let at = c.loop-event.event-index in
    let inside : at < length events = omega (arith, c.loop-event-test.true) in
    let few : length c.loop-event.replies.items < greatest_count = omega (arith, c.loop-event.replies.ok.0, c.loop-event.replies.ok.1, c.loop-event.replies.small) in
    record {
      so_far = λ first good tagged tied book.
          subst (λ list. SoFar first (take (at + 1) events) list c.step.new.state c.step.new.book) (sym c.in_ok-push.ensures.items)
          (SoFar-more first events at c.loop-event.replies.items c.loop-event.state c.step.new.state c.loop-event.book c.step.new.book c.event-item.result c.in_ok-step.field-0 inside c.event-item.is
          (c.loop-event.invariant.so_far first good tagged tied book) c.in_ok-step.ensures.follows);
      charged = λ unused.
          subst (λ list. AreCharged (length c.args.state.now.servers.items) (take (at + 1) events) list c.step.new.state.servers.items) (sym c.in_ok-push.ensures.items)
          (charged_step (length c.args.state.now.servers.items) events at c.loop-event.replies.items c.event-item.result c.in_ok-step.field-0 c.loop-event.state.servers.items c.step.new.state.servers.items inside c.event-item.is few
          (c.loop-event.invariant.charged unused) c.in_ok-step.ensures.spent);
    }

pub returns-clause-so_far : goal.returns-clause-so_far
returns-clause-so_far g c first good tagged tied book =
    let events = c.args.events.now in
    let at = c.loop-event.event-index in
    let all : length events ≤ at = omega (arith, c.loop-event-test.false) in
    subst (λ list. SoFar first list c.loop-event.replies.items c.loop-event.state c.loop-event.book) (take_all at events all) (c.loop-event.invariant.so_far first good tagged tied book)

pub returns-clause-charged : goal.returns-clause-charged
returns-clause-charged g c unused =
    let events = c.args.events.now in
    let all : length events ≤ c.loop-event.event-index = omega (arith, c.loop-event-test.false) in
    subst (λ list. AreCharged (length c.args.state.now.servers.items) list c.loop-event.replies.items c.loop-event.state.servers.items) (take_all c.loop-event.event-index events all) (c.loop-event.invariant.charged unused)
