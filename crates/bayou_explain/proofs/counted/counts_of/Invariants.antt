-- the Writes so far are counted
use Rattle.std.proofs.Common.{◌≡◌, take}
use Rattle.bayou_lang.specs.Writes.{count_of}
use Rattle.bayou_explain.proofs.counted.counts_of.Given as goal

abbrev pub invariant-loop-at : goal.invariant-loop-at
invariant-loop-at l = l.counts ≡ count_of (take l.at l.writes)
