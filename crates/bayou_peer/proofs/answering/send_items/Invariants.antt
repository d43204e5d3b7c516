-- Items of the first Writes that are lacking were sent; what is told now lacks the others
use Rattle.std.proofs.Common.{◌≡◌, ◌≤◌, ◌+◌, ◌*◌}
use Rattle.bayou_base.specs.declared.limits.TheConstants.{ITEMS_AT_ONCE, MAX_TURNS}
use Rattle.bayou_peer.specs.Inner.Sending.{HasSent}
use Rattle.bayou_peer.proofs.answering.send_items.Given as goal

abbrev pub invariant-loop-sent : goal.invariant-loop-sent
invariant-loop-sent g l = record {
  same : l.replica ≡ l.initial.replica;
  sent : HasSent (g.P.Replica.list l.initial.replica) l.counts l.told (g.W.Write.contents l.initial.channel.writer) (g.W.Write.contents l.channel.writer) l.number;
  few : l.number + ITEMS_AT_ONCE * l.channel.turns_left ≤ ITEMS_AT_ONCE * MAX_TURNS;
  fewer : l.channel.turns_left ≤ l.initial.channel.turns_left;
  reader : (l.channel.reader ≡ l.initial.channel.reader) × (l.channel.read_failed ≡ l.initial.channel.read_failed);
}

abbrev pub decreases-loop-sent : goal.decreases-loop-sent
decreases-loop-sent g l = l.channel.turns_left
