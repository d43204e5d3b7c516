-- the parts of the desks so far, and those that are left
use Rattle.std.proofs.Common.{◌≡◌, ◌+◌, ◌≤◌, length, sum}
use Rattle.bayou_node.proofs.held.gather.Given as goal

abbrev pub invariant-loop-desk : goal.invariant-loop-desk
invariant-loop-desk g l = record {
  parts : l.all.parts + length l.desk-iterator.rest.items ≡ length l.fn.desks.items;
  amount : l.all.amount + sum l.desk-iterator.rest.items ≡ sum l.fn.desks.items;
  within : l.all.parts ≤ g.L.Ledger.parts;
}
