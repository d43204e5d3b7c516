use Rattle.bayou_journal.proofs.Tearing.{append_tears, opening_tears}
use Rattle.bayou_journal.proofs.laws.a_fault_leaves_a_torn_journal.Goals as goal

pub returns-clause-append : goal.returns-clause-append
returns-clause-append c = append_tears

pub returns-clause-opening : goal.returns-clause-opening
returns-clause-opening c = opening_tears
