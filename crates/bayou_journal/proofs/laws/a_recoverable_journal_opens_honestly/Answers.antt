use Rattle.bayou_journal.proofs.Honesty.{finds_honestly, finds_something}
use Rattle.bayou_journal.proofs.laws.a_recoverable_journal_opens_honestly.Goals as goal

pub returns-clause-honest : goal.returns-clause-honest
returns-clause-honest c = finds_honestly

pub returns-clause-found : goal.returns-clause-found
returns-clause-found c = finds_something
