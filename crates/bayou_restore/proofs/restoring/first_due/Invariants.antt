use Rattle.std.proofs.Common.{option_copied}
use Rattle.bayou_restore.specs.Inner.Counting.{IsDueFirst}
use Rattle.bayou_restore.proofs.restoring.first_due.Given as goal

-- the first of the servers so far
abbrev pub invariant-loop-index : goal.invariant-loop-index
invariant-loop-index l = IsDueFirst l.index l.counts l.told l.gathered.writes (option_copied l.first)
