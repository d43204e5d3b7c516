-- the Writes so far are counted
use Rattle.std.proofs.Common.{◌≡◌, take}
use Rattle.bayou_lang.specs.Writes.{raised_by}
use Rattle.bayou_peer.proofs.sending.raise_all.Given as goal

abbrev pub invariant-loop-write : goal.invariant-loop-write
invariant-loop-write l = l.told ≡ raised_by l.initial.told (take l.write-index l.batch)
