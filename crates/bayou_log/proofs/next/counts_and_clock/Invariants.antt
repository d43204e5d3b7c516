-- the counts and the clock are those of the Writes so far
use Rattle.std.proofs.Common.{◌≡◌, take}
use Rattle.bayou_lang.specs.Writes.{count_of, greatest_clock}
use Rattle.bayou_log.proofs.next.counts_and_clock.Given as goal

abbrev pub invariant-loop-write : goal.invariant-loop-write
invariant-loop-write l = record {
  counts : l.vector ≡ count_of (take l.write-index l.writes);
  clock : l.clock ≡ greatest_clock (take l.write-index l.writes);
}
