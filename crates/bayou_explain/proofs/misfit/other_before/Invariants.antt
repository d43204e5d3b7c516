-- none of the servers so far has another
use Rattle.std.proofs.Common.{ℕ, ◌<◌}
use Rattle.bayou_judge.specs.History.{dump_of, lent_lists}
use Rattle.bayou_explain.specs.Misfit.{AreSame}
use Rattle.bayou_explain.proofs.misfit.other_before.Given as goal

abbrev pub invariant-loop-index : goal.invariant-loop-index
invariant-loop-index l = (other : ℕ) → other < l.index → AreSame (dump_of (lent_lists l.dumps) other) l.write
