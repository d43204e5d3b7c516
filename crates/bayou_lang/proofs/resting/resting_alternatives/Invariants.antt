use Rattle.std.proofs.Common.{◌≡◌, length, take, vec_capacity, vec_len}
use Rattle.bayou_lang.proofs.resting.resting_alternatives.Given as goal

-- those so far, and room for all
abbrev pub invariant-loop-alternative : goal.invariant-loop-alternative
invariant-loop-alternative l = record {
  so_far : l.list.items ≡ take l.alternative-index l.alternatives;
  number : vec_len l.list ≡ l.alternative-index;
  room : vec_capacity l.list ≡ length l.alternatives;
}
