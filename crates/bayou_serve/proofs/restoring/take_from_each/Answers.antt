use Rattle.std.proofs.Common.{◌∙◌, ap}
use Rattle.bayou_serve.specs.declared.plan.Peer.{Peer}
use Rattle.bayou_serve.proofs.Taken.{answers_more, from_more}
use Rattle.bayou_serve.proofs.restoring.take_from_each.Goals as goal

pub loop-peer-preserved : goal.loop-peer-preserved
loop-peer-preserved g c = record {
  each = from_more c.args.peers.now c.loop-peer.peer-index _ c.loop-peer.taken.items c.push.new.self.items c.in_ok-one.one c.loop-peer.invariant.each c.loop-peer-test.true
      (rw c.if-is_err.ensures.negation at c.push.ensures.items) (c.in_ok-one.ensures.whose ∙ ap (λ (peer : Peer). peer.id.index) c.peer-item.is);
  taken = answers_more c.args.server.now.core c.loop-peer.server.core c.take_all_of.new.server.core c.loop-peer.taken.items c.push.new.self.items c.in_ok-one.one
      c.in_ok-gathered.gathered.writes c.loop-peer.invariant.taken (rw c.if-is_err.ensures.negation at c.push.ensures.items) c.in_ok-one.ensures.taken;
}
