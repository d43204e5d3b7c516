use Rattle.std.proofs.Common.{◌<◌, ℕ, List}
use Rattle.bayou_base.specs.declared.server.ServerId.{ServerId}
use Rattle.bayou_serve.specs.HeldDigests.{DifferFrom, HasRead}
use Rattle.bayou_serve.proofs.held_digests.HeldDigests.difference.Given as goal

abbrev pub invariant-loop-index : goal.invariant-loop-index
invariant-loop-index l = (origin : ServerId) (writes : List (List ℕ)) → origin.index < l.index → HasRead l.self origin writes → DifferFrom writes l.told origin → ⊥
