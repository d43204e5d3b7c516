use Rattle.bayou_lang.specs.Laws.Equality.{same_program-decides, same_write-decides}
use Rattle.bayou_lang.proofs.laws.equality_decides.Goals as goal

pub returns-clause-programs : goal.returns-clause-programs
returns-clause-programs c = same_program-decides

pub returns-clause-writes : goal.returns-clause-writes
returns-clause-writes c = same_write-decides
