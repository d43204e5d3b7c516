use Rattle.bayou_journal.proofs.Calls.{not_both, not_foreign, not_of_another}
use Rattle.bayou_journal.proofs.laws.what_is_found_is_not_refused.Goals as goal

pub returns-clause-foreign : goal.returns-clause-foreign
returns-clause-foreign c = not_foreign

pub returns-clause-another : goal.returns-clause-another
returns-clause-another c = not_of_another

pub returns-clause-both : goal.returns-clause-both
returns-clause-both c = not_both
