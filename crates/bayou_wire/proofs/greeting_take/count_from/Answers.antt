use Rattle.bayou_wire.specs.Laws.Inner.Greetings.{count_of-given}
use Rattle.bayou_wire.proofs.greeting_take.count_from.Goals as goal

pub returns : goal.returns
returns c = count_of-given _ _ c.new.ensures.within c.new.ensures.value
