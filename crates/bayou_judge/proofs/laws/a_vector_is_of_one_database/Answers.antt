use Rattle.bayou_judge.proofs.Needed.{one_front}
use Rattle.bayou_judge.proofs.laws.a_vector_is_of_one_database.Goals as goal

pub returns : goal.returns
returns c dump database other here there same = one_front dump database other here there same
