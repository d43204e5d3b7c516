-- What an opening keeps and how it is refused, so is a reopening.
use Rattle.bayou_journal.proofs.journal.Journal.reopen.Goals as goal

pub returns-in-Err-clause-safe : goal.returns-in-Err-clause-safe
returns-in-Err-clause-safe g c = rw (← c.self.view_is) c.restore.ensures.safe

pub returns-in-Ok-clause-safe : goal.returns-in-Ok-clause-safe
returns-in-Ok-clause-safe g c = rw (← c.self.view_is) c.restore.ensures.safe

pub returns-in-Err-clause-refused : goal.returns-in-Err-clause-refused
returns-in-Err-clause-refused g c = rw (← c.self.view_is) c.in-Err.ensures.refused
