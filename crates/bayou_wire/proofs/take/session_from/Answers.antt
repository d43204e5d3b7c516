use Rattle.bayou_wire.specs.Laws.Inner.Readers.{session_of-given}
use Rattle.bayou_wire.proofs.take.session_from.Goals as goal

pub returns : goal.returns
returns c = session_of-given _ _ c.new.ensures.within c.new.ensures.value
