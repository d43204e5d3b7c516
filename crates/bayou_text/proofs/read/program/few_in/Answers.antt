use Rattle.std.proofs.Common.{arith}
use Rattle.std.proofs.lemmas.Grind.{common_steps}
use Rattle.bayou_text.proofs.read.program.few_in.Goals as goal

pub returns-then-list-clause-read : goal.returns-then-list-clause-read
returns-then-list-clause-read g c = grind (arith, common_steps) steps 2000000

pub returns-in_err-part_in-clause-read : goal.returns-in_err-part_in-clause-read
returns-in_err-part_in-clause-read g c = grind (arith, common_steps) steps 2000000

pub loop-json-preserved : goal.loop-json-preserved
loop-json-preserved g c = grind (arith, common_steps) steps 2000000

pub returns-clause-read : goal.returns-clause-read
returns-clause-read g c = grind (arith, common_steps) steps 2000000
