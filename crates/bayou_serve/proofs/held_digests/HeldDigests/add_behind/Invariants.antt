use Rattle.std.proofs.Common.{◌≡◌, ◌<◌, ◌+◌, ◌^◌, ◌++◌, List, length, map, take, ℕ}
use Rattle.bayou_base.specs.declared.server.ServerId.{ServerId}
use Rattle.bayou_restore.specs.Restoring.{own_of}
use Rattle.bayou_wire.specs.Spelling.{write_bytes}
use Rattle.bayou_serve.specs.HeldDigests.{HasRead}
use Rattle.bayou_serve.proofs.held_digests.HeldDigests.add_behind.Given as goal

abbrev pub invariant-loop-write : goal.invariant-loop-write
invariant-loop-write l =
    ((origin : ServerId) (before : List (List ℕ)) → HasRead l.fn.self origin before
    → HasRead l.self origin (before ++ map write_bytes (own_of origin.index (take l.write-index l.fn.writes))))
    × (l.fn.self.read + length l.fn.writes < 2 ^ 64 → l.self.read ≡ l.fn.self.read + l.write-index)
