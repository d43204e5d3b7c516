use Rattle.bayou_judge.specs.History.{history_of}
use Rattle.bayou_judge.proofs.Verdicts.{broken_holds}
use Rattle.bayou_judge.proofs.laws.a_breach_violates.Goals as goal

pub returns : goal.returns
returns c entries dumps breach is holds = broken_holds (history_of entries dumps) breach is holds
