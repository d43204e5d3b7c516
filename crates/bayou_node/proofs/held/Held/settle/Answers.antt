use Rattle.std.proofs.Common.{rules}
use Rattle.bayou_node.proofs.held.Held.settle.Goals as goal

-- src/held.rt:221:5
pub returns-clause-settled : goal.returns-clause-settled
returns-clause-settled g c = search rules
