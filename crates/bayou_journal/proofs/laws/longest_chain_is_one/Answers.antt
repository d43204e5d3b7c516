use Rattle.bayou_journal.specs.Laws.Chain.{longest_is_one}
use Rattle.bayou_journal.proofs.laws.longest_chain_is_one.Goals as goal

pub returns : goal.returns
returns c = longest_is_one
