-- those behind are 0
use Rattle.std.proofs.Common.{◌≡◌, ◌≤◌, ◌-◌, drop}
use Rattle.std.specs.List.{AllByRecursion}
use Rattle.bayou_base.specs.declared.limits.TheConstants.{SERVERS}
use Rattle.bayou_export.proofs.lines.told_counts.Given as goal

abbrev pub invariant-loop-told : goal.invariant-loop-told
invariant-loop-told l = (l.least ≤ l.told) × (l.told ≤ SERVERS) × AllByRecursion (λ count. count ≡ 0) (drop l.told l.vector)

abbrev pub decreases-loop-told : goal.decreases-loop-told
decreases-loop-told l = l.told - l.least
