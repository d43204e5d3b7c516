-- the Writes so far
use Rattle.std.proofs.Common.{map, take}
use Rattle.bayou_greeting.specs.OriginDigests.{AreDigestsOf}
use Rattle.bayou_wire.specs.Spelling.{write_bytes}
use Rattle.bayou_renew.proofs.digesting.digest_of.Given as goal

abbrev pub invariant-loop-write : goal.invariant-loop-write
invariant-loop-write l = AreDigestsOf l.digests (map write_bytes (take l.write-index l.writes))
