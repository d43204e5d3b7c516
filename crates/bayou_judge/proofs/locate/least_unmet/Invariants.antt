use Rattle.std.proofs.Common.{take}
use Rattle.bayou_judge.specs.Inner.Needs.{IsLeastUnmet}
use Rattle.bayou_judge.proofs.locate.least_unmet.Given as goal

abbrev pub invariant-loop-write : goal.invariant-loop-write
invariant-loop-write l = IsLeastUnmet (take l.write-index l.dump) l.what l.demand l.least
