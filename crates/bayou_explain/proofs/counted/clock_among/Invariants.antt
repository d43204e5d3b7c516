-- the greatest clock of those so far that are counted
use Rattle.std.proofs.Common.{◌≡◌, take}
use Rattle.bayou_lang.specs.Writes.{covered_by, greatest_clock}
use Rattle.bayou_explain.proofs.counted.clock_among.Given as goal

abbrev pub invariant-loop-write : goal.invariant-loop-write
invariant-loop-write l = l.clock ≡ greatest_clock (covered_by l.counts (take l.write-index l.writes))
