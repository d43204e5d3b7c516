use Rattle.std.proofs.Common.{take}
use Rattle.std.specs.List.{AllZip}
use Rattle.bayou_person.specs.Inner.Alternatives.{IsFallback}
use Rattle.bayou_person.proofs.doing.fallbacks.Given as goal

-- those so far
abbrev pub invariant-loop-key : goal.invariant-loop-key
invariant-loop-key l = AllZip (IsFallback l.value) l.alternatives.items (take l.key-index l.keys)
