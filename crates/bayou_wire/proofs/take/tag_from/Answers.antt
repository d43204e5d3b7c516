use Rattle.bayou_wire.specs.Laws.Inner.Readers.{tag_of-given}
use Rattle.bayou_wire.proofs.take.tag_from.Goals as goal

pub returns : goal.returns
returns c = tag_of-given _ _ _ _ c.new.ensures.within c.new.ensures.value
