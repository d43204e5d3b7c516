-- the keys are those that the Writes so far may change
use Rattle.std.proofs.Common.{◌≡◌, ℕ, List, take}
use Rattle.bayou_connect.specs.Beyond.{has_key, may_change}
use Rattle.bayou_connect.proofs.looking.Beyond.of.Given as goal

abbrev pub invariant-loop-write : goal.invariant-loop-write
invariant-loop-write l = (key : List ℕ) → has_key l.keys key ≡ may_change (take l.write-index l.writes) key
