use Rattle.bayou_journal.proofs.Tearing.{opens_honestly, torn_in_part, torn_whole}
use Rattle.bayou_journal.proofs.laws.a_torn_journal_opens_honestly.Goals as goal

pub returns-clause-part : goal.returns-clause-part
returns-clause-part c = torn_in_part

pub returns-clause-whole : goal.returns-clause-whole
returns-clause-whole c = torn_whole

pub returns-clause-honest : goal.returns-clause-honest
returns-clause-honest c = opens_honestly
