use Rattle.std.proofs.Common.{◌≡◌, not, take}
use Rattle.std.specs.List.{filter}
use Rattle.bayou_lang.specs.Database.{same_key}
use Rattle.bayou_lang.proofs.eval.is_changed.Given as goal

-- those so far are of other keys
abbrev pub invariant-loop-change : goal.invariant-loop-change
invariant-loop-change l =
    filter (λ change. not (same_key change.key l.key)) (take l.change-index l.changes.items) ≡ take l.change-index l.changes.items
