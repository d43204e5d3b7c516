use Rattle.std.proofs.Common.{◌≡◌, length}
use Rattle.bayou_judge.specs.History.{lent_lists}
use Rattle.bayou_judge.specs.Inner.Checks.{AreRead}
use Rattle.bayou_judge.proofs.dumps.indexes_of.Given as goal

-- the servers so far are read
abbrev pub invariant-loop-server : goal.invariant-loop-server
invariant-loop-server l = record {
  as_many : length l.indexes.items ≡ l.server;
  read : AreRead l.count (lent_lists l.dumps) l.server l.indexes.items;
}
