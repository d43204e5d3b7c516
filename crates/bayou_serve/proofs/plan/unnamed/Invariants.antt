-- each of those so far is the own one, or named
use Rattle.bayou_serve.specs.Words.{AreNamed}
use Rattle.bayou_serve.proofs.plan.unnamed.Given as goal

abbrev pub invariant-loop-index : goal.invariant-loop-index
invariant-loop-index l = AreNamed l.id.index l.index l.peers l.left_out
