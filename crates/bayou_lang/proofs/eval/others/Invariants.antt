use Rattle.std.proofs.Common.{◌≡◌, ◌≤◌, not, take}
use Rattle.arrayvec.specs.ArrayVec.{array_vec_len}
use Rattle.std.specs.List.{filter}
use Rattle.bayou_lang.specs.Database.{same_key}
use Rattle.bayou_lang.proofs.eval.others.Given as goal

-- those of the other keys so far
abbrev pub invariant-loop-change : goal.invariant-loop-change
invariant-loop-change l =
    (l.others.items ≡ filter (λ change. not (same_key change.key l.key)) (take l.change-index l.changes.items)) ×
    (array_vec_len l.others ≤ l.change-index)
