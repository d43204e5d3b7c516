use Rattle.bayou_judge.proofs.Good.{good_is_sound}
use Rattle.bayou_judge.proofs.laws.good_dumps_are_sound.Goals as goal

pub returns : goal.returns
returns c count dumps good server = good_is_sound count dumps good server
