-- none so far is another
use Rattle.std.proofs.Common.{take}
use Rattle.bayou_explain.specs.Misfit.{AreSame}
use Rattle.bayou_explain.proofs.misfit.has_other.Given as goal

abbrev pub invariant-loop-held : goal.invariant-loop-held
invariant-loop-held l = AreSame (take l.held-index l.dump) l.write
