use Rattle.bayou_wire.specs.Laws.Inner.Readers.{wid_of-given}
use Rattle.bayou_wire.proofs.take.wid_from.Goals as goal

pub returns : goal.returns
returns c = wid_of-given _ _ _ c.new.ensures.within c.new.ensures.value
