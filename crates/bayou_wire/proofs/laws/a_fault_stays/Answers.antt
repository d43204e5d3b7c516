use Rattle.bayou_wire.specs.Laws.Inner.Fronts.{faulty_more}
use Rattle.bayou_wire.proofs.laws.a_fault_stays.Goals as goal

pub returns : goal.returns
returns c = faulty_more
