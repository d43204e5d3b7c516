-- the Writes so far put the rows but for the rest, each as many as it may have
use Rattle.std.proofs.Common.{◌≡◌, ◌+◌, ◌*◌, ◌<◌, ◌≤◌, length}
use Rattle.bayou_base.specs.declared.limits.TheConstants.{MAX_OPS}
use Rattle.bayou_connect.proofs.importing.Putting.put_all.Given as goal

abbrev pub invariant-loop-rest : goal.invariant-loop-rest
invariant-loop-rest g l =
    (0 < length l.rest → MAX_OPS * l.writes + length l.rest ≡ length l.rows) × (MAX_OPS * l.writes < length l.rows + MAX_OPS) × (length l.rows ≤ MAX_OPS * l.writes + length l.rest)
    × (length l.rest ≤ length l.rows)

abbrev pub decreases-loop-rest : goal.decreases-loop-rest
decreases-loop-rest g l = length l.rest
