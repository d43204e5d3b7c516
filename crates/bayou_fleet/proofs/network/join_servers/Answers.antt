use Rattle.std.proofs.Common.{◌<◌, arith, length, subst}
use Rattle.bayou_fleet.specs.Servers.{IsDump, IsServerSettled}
use Rattle.bayou_node.specs.Books.{Begun}
use Rattle.bayou_fleet.proofs.Told.{dumps_more, told_more}
use Rattle.bayou_fleet.proofs.network.join_servers.Goals as goal

pub loop-mailbox-preserved : goal.loop-mailbox-preserved
loop-mailbox-preserved g c =
    let servers = c.args.mailboxes.now in
    let at = c.loop-mailbox.mailbox-index in
    let server = c.mailbox-item.result in
    let within : at < length servers = omega (arith, c.loop-mailbox-test.true) in
    let dump = c.in_ok-at.field-0 in
    let one = c.in_ok-at-2.field-0 in
    record {
      held = dumps_more servers at server c.loop-mailbox.dumps.items c.push.new.self.items dump within c.mailbox-item.is c.loop-mailbox.invariant.held
          (subst (λ (b : Begun). IsDump b dump.items) c.begun.ensures c.in_ok-at.ensures) c.in_ok-push.ensures.items;
      settled = told_more IsServerSettled servers at server c.loop-mailbox.nodes.items c.push-in-loop-mailbox.new.self.items one within c.mailbox-item.is c.loop-mailbox.invariant.settled
          (subst (λ (b : Begun). IsServerSettled b one) c.begun-in-loop-mailbox.ensures c.in_ok-at-2.ensures) c.in_ok-push-2.ensures.items;
    }
