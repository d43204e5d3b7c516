use Rattle.bayou_wire.specs.Laws.Inner.Readers.{server_of-given}
use Rattle.bayou_wire.proofs.take.server_from.Goals as goal

pub returns : goal.returns
returns c = server_of-given _ _ c.new.ensures.within c.new.ensures.value
