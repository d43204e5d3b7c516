use Rattle.bayou_journal.proofs.Honesty.{whole_is_longest}
use Rattle.bayou_journal.proofs.laws.a_whole_journal_is_its_longest_chain.Goals as goal

pub returns : goal.returns
returns c = whole_is_longest
