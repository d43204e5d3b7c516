-- Items of the first so many Writes were sent, and no turn sends more than a part
use Rattle.std.proofs.Common.{◌≡◌, ◌≤◌, ◌+◌, ◌*◌, ℕ, List, Option}
use Rattle.bayou_base.specs.declared.limits.TheConstants.{ITEMS_AT_ONCE, MAX_TURNS}
use Rattle.bayou_net.specs.Inner.Dumping.{HasDumped}
use Rattle.bayou_net.proofs.dumping.send_behind.Given as goal

abbrev pub invariant-loop-part : goal.invariant-loop-part
invariant-loop-part g l = record {
  same : l.served ≡ l.initial.served;
  sent : (before : Option (List ℕ)) → HasDumped (g.S.Replica.list l.initial.served) before (g.W.Write.contents l.initial.channel.writer) l.first
      → HasDumped (g.S.Replica.list l.initial.served) before (g.W.Write.contents l.channel.writer) l.number;
  few : l.number + ITEMS_AT_ONCE * l.channel.turns_left ≤ ITEMS_AT_ONCE * (MAX_TURNS + 1);
  fewer : l.channel.turns_left ≤ l.initial.channel.turns_left;
  reader : (l.channel.reader ≡ l.initial.channel.reader) × (l.channel.read_failed ≡ l.initial.channel.read_failed);
}

abbrev pub decreases-loop-part : goal.decreases-loop-part
decreases-loop-part g l = l.channel.turns_left
