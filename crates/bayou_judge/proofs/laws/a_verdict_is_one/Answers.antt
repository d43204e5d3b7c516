use Rattle.bayou_judge.proofs.Unique.{one_verdict}
use Rattle.bayou_judge.proofs.laws.a_verdict_is_one.Goals as goal

pub returns : goal.returns
returns c count entries dumps one other here there = one_verdict count entries dumps one other here there
