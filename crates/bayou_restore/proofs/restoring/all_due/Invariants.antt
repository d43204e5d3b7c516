use Rattle.std.proofs.Common.{◌+◌, ◌*◌, ◌≡◌, ◌≤◌, length}
use Rattle.bayou_base.specs.declared.limits.TheConstants.{MAX_WRITES, SERVERS}
use Rattle.bayou_restore.specs.Inner.Counting.{AreDue}
use Rattle.bayou_restore.proofs.Gap.{gap}
use Rattle.bayou_restore.proofs.restoring.all_due.Given as goal

-- those so far were due, one after another
abbrev pub invariant-loop-write : goal.invariant-loop-write
invariant-loop-write l = record {
  due : AreDue l.counts l.gathered.writes l.fn.held l.due.items l.told;
  few : length l.due.items + gap l.counts l.told ≤ SERVERS * MAX_WRITES;
  one_each : length l.told ≡ SERVERS;
}

abbrev pub decreases-loop-write : goal.decreases-loop-write
decreases-loop-write l = gap l.counts l.told
