-- the last of the Writes, so many, are taken back
use Rattle.std.proofs.Common.{◌≡◌, ◌+◌, ◌-◌, ◌≤◌, List, [], ◌++◌, Option, None, length, replicate}
use Rattle.std.specs.VecDeque.{deque_capacity}
use Rattle.bayou_base.specs.declared.tag.Tag.{Tag}
use Rattle.bayou_server.proofs.together.doubt_last.Given as goal

abbrev pub invariant-loop : goal.invariant-loop
invariant-loop l = record {
  held : l.initial.holding.log.receipts ≡ l.holding.log.receipts ++ l.holding.taking.items;
  many : length l.holding.taking.items ≡ l.counter;
  within : l.counter ≤ l.number;
  log : l.holding.log ≡ record l.initial.holding.log { receipts = l.holding.log.receipts; room = l.holding.log.room; waiting = l.initial.holding.log.waiting - l.counter };
  untagged : (front : List (Option Tag)) × (l.initial.holding.tags.tags ≡ front ++ replicate l.number None) × (l.holding.tags.tags ≡ front ++ replicate (l.number - l.counter) None);
  tags : l.holding.tags ≡ record l.initial.holding.tags { tags = l.holding.tags.tags; room = l.holding.tags.room };
  places : deque_capacity l.holding.taking ≡ deque_capacity l.initial.holding.taking;
}
