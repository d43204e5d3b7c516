use Rattle.std.proofs.Common.{◌*◌, ◌-◌, ◌≤◌, vec_len}
use Rattle.bayou_base.specs.declared.limits.TheConstants.{SERVERS}
use Rattle.bayou_serve.proofs.comparing.no_differences.Given as goal

abbrev pub invariant-loop-differences : goal.invariant-loop-differences
invariant-loop-differences l = vec_len l.differences ≤ SERVERS * SERVERS

abbrev pub decreases-loop-differences : goal.decreases-loop-differences
decreases-loop-differences l = SERVERS * SERVERS - vec_len l.differences
