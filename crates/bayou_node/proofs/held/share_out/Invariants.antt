-- one part for each desk so far
use Rattle.std.proofs.Common.{◌≡◌, ◌+◌, vec_capacity, vec_len}
use Rattle.bayou_node.specs.Books.{AreNewDesks}
use Rattle.bayou_node.proofs.held.share_out.Given as goal

abbrev pub invariant-loop : goal.invariant-loop
invariant-loop g l = record {
  left : l.all.parts + l.counter ≡ l.desks;
  none : l.all.amount ≡ 0;
  made : AreNewDesks l.counter l.made.items;
  number : vec_len l.made ≡ l.counter;
  room : vec_capacity l.made ≡ l.desks;
}
