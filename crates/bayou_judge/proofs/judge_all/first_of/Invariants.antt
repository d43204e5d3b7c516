use Rattle.std.proofs.Common.{take, All}
use Rattle.bayou_judge.specs.Inner.Verdicts.{AreUnasked}
use Rattle.bayou_judge.proofs.judge_all.first_of.Given as goal

abbrev pub invariant-loop-surveyed : goal.invariant-loop-surveyed
invariant-loop-surveyed l = All (AreUnasked l.entries) (take l.surveyed-index l.list)
