use Rattle.std.proofs.Common.{◌≡◌, take}
use Rattle.bayou_lang.proofs.program.conditions_of.Given as goal

-- those so far
abbrev pub invariant-loop-condition : goal.invariant-loop-condition
invariant-loop-condition l = l.list.items ≡ take l.condition-index l.conditions
