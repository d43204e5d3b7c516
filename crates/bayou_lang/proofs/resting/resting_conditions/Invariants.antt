use Rattle.std.proofs.Common.{◌≡◌, length, take, vec_capacity, vec_len}
use Rattle.bayou_lang.proofs.resting.resting_conditions.Given as goal

-- those so far, and room for all
abbrev pub invariant-loop-condition : goal.invariant-loop-condition
invariant-loop-condition l = record {
  so_far : l.list.items ≡ take l.condition-index l.conditions;
  number : vec_len l.list ≡ l.condition-index;
  room : vec_capacity l.list ≡ length l.conditions;
}
