use Rattle.std.proofs.Common.{arith}
use Rattle.bayou_base.proofs.Counts.{AreCounts-joined, Covers-joined}
use Rattle.bayou_base.proofs.vector.Vector.join.Goals as goal

pub invariant_of-result : goal.invariant_of-result
invariant_of-result c = rw c.greater_counts.ensures (AreCounts-joined _ _ c.self.invariant c.other.invariant)

pub returns-clause-writes : goal.returns-clause-writes
returns-clause-writes c = rw (c.greater_counts.ensures, ← c.self.view_is, ← c.other.view_is)
    (λ server seq. Covers-joined c.self.inside.counts c.other.inside.counts server seq (omega arith))
