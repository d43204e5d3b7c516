use Rattle.bayou_text.proofs.LineLaws.{either_is, line_or_fault, one_fault, one_line}
use Rattle.bayou_text.proofs.laws.a_line_is_read_in_one_way.Goals as goal

pub returns-clause-one_line : goal.returns-clause-one_line
returns-clause-one_line c = one_line

pub returns-clause-one_fault : goal.returns-clause-one_fault
returns-clause-one_fault c = one_fault

pub returns-clause-not_both : goal.returns-clause-not_both
returns-clause-not_both c = line_or_fault

pub returns-clause-either : goal.returns-clause-either
returns-clause-either c = either_is
