use Rattle.std.proofs.Common.{arith}
use Rattle.std.proofs.lemmas.Grind.{common_steps}
use Rattle.bayou_wire.proofs.put.put_list.Goals as goal

pub loop-member-init : goal.loop-member-init
loop-member-init g c = grind (arith, common_steps) steps 2000000

pub loop-member-preserved : goal.loop-member-preserved
loop-member-preserved g c = grind (arith, common_steps) steps 2000000

pub returns : goal.returns
returns g c = grind (arith, common_steps) steps 2000000
