use Rattle.bayou_wire.specs.Laws.Inner.Fronts.{partial_not_faulty}
use Rattle.bayou_wire.proofs.laws.partial_bytes_have_no_fault.Goals as goal

pub returns : goal.returns
returns c = partial_not_faulty
