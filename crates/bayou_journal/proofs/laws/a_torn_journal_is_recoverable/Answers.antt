use Rattle.bayou_journal.proofs.Honesty.{torn_recovers}
use Rattle.bayou_journal.proofs.laws.a_torn_journal_is_recoverable.Goals as goal

pub returns : goal.returns
returns c = torn_recovers
