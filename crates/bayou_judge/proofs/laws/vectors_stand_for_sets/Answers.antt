use Rattle.bayou_judge.proofs.Good.{front_counts, front_has}
use Rattle.bayou_judge.proofs.laws.vectors_stand_for_sets.Goals as goal

pub returns : goal.returns
returns c count dumps good server database front other write held = (front_counts count dumps good server database front write, front_has count dumps good server database front write (other, held))
