use Rattle.bayou_wire.specs.Laws.Inner.Greetings.{frame_no_greeting}
use Rattle.bayou_wire.proofs.laws.a_frame_is_no_greeting.Goals as goal

pub returns : goal.returns
returns c frame behind is = frame_no_greeting frame behind is
