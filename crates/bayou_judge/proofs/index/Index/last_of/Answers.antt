use Rattle.std.proofs.Common.{arith}
use Rattle.std.proofs.lemmas.Grind.{elements}
use Rattle.bayou_judge.proofs.index.Index.last_of.Goals as goal

pub returns-in_default : goal.returns-in_default
returns-in_default c = grind (arith, elements) steps 2000000
