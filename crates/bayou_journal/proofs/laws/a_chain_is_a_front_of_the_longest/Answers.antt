use Rattle.bayou_journal.proofs.Tearing.{front_of_chain}
use Rattle.bayou_journal.proofs.laws.a_chain_is_a_front_of_the_longest.Goals as goal

pub returns : goal.returns
returns c = front_of_chain
