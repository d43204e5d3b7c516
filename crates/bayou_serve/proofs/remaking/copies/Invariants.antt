-- the Writes so far
use Rattle.std.proofs.Common.{◌≡◌, take}
use Rattle.bayou_serve.proofs.remaking.copies.Given as goal

abbrev pub invariant-loop-write : goal.invariant-loop-write
invariant-loop-write l = l.copies.items ≡ take l.write-index l.writes
