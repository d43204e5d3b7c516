use Rattle.std.proofs.Common.{arith}
use Rattle.std.proofs.lemmas.Grind.{common_steps}
use Rattle.bayou_wire.specs.Inner.Reading.{optional_wid_at}
use Rattle.bayou_wire.proofs.payload.optional_wid_of.Goals as goal

pub returns-in-Some : goal.returns-in-Some
unfolding optional_wid_at
returns-in-Some c = grind (arith, common_steps)
