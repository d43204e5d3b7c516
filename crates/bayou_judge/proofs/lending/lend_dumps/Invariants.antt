use Rattle.std.proofs.Common.{◌≡◌, length, take}
use Rattle.bayou_judge.specs.History.{lent_lists, lists_of}
use Rattle.bayou_judge.proofs.lending.lend_dumps.Given as goal

-- those so far are lent
abbrev pub invariant-loop-dump : goal.invariant-loop-dump
invariant-loop-dump l = record {
  as_many : length l.lent.items ≡ l.dump-index;
  same : lent_lists l.lent.items ≡ lists_of (take l.dump-index l.dumps);
}
