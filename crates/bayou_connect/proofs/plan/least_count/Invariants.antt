-- no more than there may be, and the least for those so far
use Rattle.std.proofs.Common.{◌≤◌, take}
use Rattle.bayou_base.specs.declared.limits.TheConstants.{SERVERS}
use Rattle.bayou_connect.specs.Plans.{IsLeast}
use Rattle.bayou_connect.proofs.plan.least_count.Given as goal

abbrev pub invariant-loop-place : goal.invariant-loop-place
invariant-loop-place l = record { within : l.least ≤ SERVERS; least : IsLeast l.least (take l.place-index l.places) }
