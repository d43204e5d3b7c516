use Rattle.std.proofs.Common.{rules}
use Rattle.bayou_lang.proofs.eval.op_change.Goals as goal

pub returns-in-Del-clause-value : goal.returns-in-Del-clause-value
returns-in-Del-clause-value g c = search rules
