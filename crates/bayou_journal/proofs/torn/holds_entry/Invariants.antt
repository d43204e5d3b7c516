use Rattle.std.proofs.Common.{length}
use Rattle.bayou_journal.proofs.Unfinished.{NoneBefore}
use Rattle.bayou_journal.proofs.torn.holds_entry.Given as goal

abbrev pub invariant-loop-before : goal.invariant-loop-before
invariant-loop-before l = NoneBefore l.bytes l.rest

abbrev pub decreases-loop-before : goal.decreases-loop-before
decreases-loop-before l = length l.rest
