use Rattle.bayou_final.proofs.Front.{goes_on}
use Rattle.bayou_final.proofs.Left.{what_is_left}
use Rattle.bayou_final.proofs.laws.a_known_beginning_goes_on.Goals as goal

pub returns-clause-longest : goal.returns-clause-longest
returns-clause-longest c = goes_on

pub returns-clause-left : goal.returns-clause-left
returns-clause-left c = what_is_left
