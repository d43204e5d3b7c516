use Rattle.std.proofs.Common.{rules}
use Rattle.bayou_node.proofs.held.Held.read.Goals as goal

-- src/held.rt:125:5
pub returns-clause-reads : goal.returns-clause-reads
returns-clause-reads g c = search rules
