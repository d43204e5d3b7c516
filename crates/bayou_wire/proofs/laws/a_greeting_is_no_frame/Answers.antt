use Rattle.bayou_wire.specs.Laws.Inner.Greetings.{greeting_no_frame}
use Rattle.bayou_wire.proofs.laws.a_greeting_is_no_frame.Goals as goal

pub returns : goal.returns
returns c greeting behind is = greeting_no_frame greeting behind is
