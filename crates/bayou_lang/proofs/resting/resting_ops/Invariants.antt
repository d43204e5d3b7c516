use Rattle.std.proofs.Common.{◌≡◌, length, take, vec_capacity, vec_len}
use Rattle.bayou_lang.proofs.resting.resting_ops.Given as goal

-- those so far, and room for all
abbrev pub invariant-loop-op : goal.invariant-loop-op
invariant-loop-op l = record {
  so_far : l.list.items ≡ take l.op-index l.ops;
  number : vec_len l.list ≡ l.op-index;
  room : vec_capacity l.list ≡ length l.ops;
}
