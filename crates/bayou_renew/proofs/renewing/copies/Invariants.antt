-- the Writes so far, and room for the others
use Rattle.std.proofs.Common.{◌≡◌, ◌+◌, ◌≤◌, ◌-◌, length, take}
use Rattle.bayou_renew.proofs.renewing.copies.Given as goal

abbrev pub invariant-loop-write : goal.invariant-loop-write
invariant-loop-write l = l.copies.items ≡ take l.write-index l.writes
