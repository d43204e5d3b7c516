-- what was fed of the answer so far: its whole Items were taken, and less than a frame is held back
use Rattle.std.proofs.Common.{◌≡◌, ◌++◌, ℕ, List, length}
use Rattle.bayou_peer.specs.Inner.Steps.{Standing}
use Rattle.bayou_peer.proofs.pulling.take_answer.Given as goal

abbrev pub invariant-loop-rest : goal.invariant-loop-rest
invariant-loop-rest g l = record {
  went : (read : List ℕ) × (l.answer ≡ read ++ l.rest)
      × Standing {S = g.row.P.Denot} (record { list = g.P.Replica.list; takes = g.P.Replica.takes }) l.initial.replica l.replica read l.frames l.pulled;
}

abbrev pub decreases-loop-rest : goal.decreases-loop-rest
decreases-loop-rest g l = length l.rest
