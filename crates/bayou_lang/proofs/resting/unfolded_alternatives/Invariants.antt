use Rattle.std.proofs.Common.{◌≡◌, take}
use Rattle.bayou_lang.proofs.resting.unfolded_alternatives.Given as goal

-- those so far
abbrev pub invariant-loop-alternative : goal.invariant-loop-alternative
invariant-loop-alternative l = l.list.items ≡ take l.alternative-index l.alternatives
