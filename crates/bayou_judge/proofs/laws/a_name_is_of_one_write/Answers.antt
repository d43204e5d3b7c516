use Rattle.bayou_judge.proofs.Good.{one_write}
use Rattle.bayou_judge.proofs.laws.a_name_is_of_one_write.Goals as goal

pub returns : goal.returns
returns c count dumps good one other here there has_one has_other same = one_write count dumps good one other (here, has_one) (there, has_other) same
