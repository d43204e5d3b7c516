use Rattle.bayou_wire.proofs.Feeding.{same_reading}
use Rattle.bayou_wire.proofs.laws.one_reading.Goals as goal

pub returns : goal.returns
returns c stream frames others rest left a b = same_reading frames others stream rest left a b
