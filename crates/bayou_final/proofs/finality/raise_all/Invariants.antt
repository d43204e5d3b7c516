use Rattle.std.proofs.Common.{◌≡◌, drop}
use Rattle.bayou_lang.specs.Writes.{raised_by}
use Rattle.bayou_final.proofs.finality.raise_all.Given as goal

-- raised to what is left, they are what all of the Writes raise them to
abbrev pub invariant-loop-write : goal.invariant-loop-write
invariant-loop-write l = raised_by l.counts (drop l.write-index l.writes) ≡ raised_by l.fn.counts l.writes
