use Rattle.std.proofs.Common.{◌≡◌, take}
use Rattle.bayou_lang.proofs.program.ops_of.Given as goal

-- those so far
abbrev pub invariant-loop-op : goal.invariant-loop-op
invariant-loop-op l = l.list.items ≡ take l.op-index l.ops
