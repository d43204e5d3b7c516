use Rattle.bayou_wire.specs.Laws.Inner.Greetings.{one_greeting_answer}
use Rattle.bayou_wire.proofs.laws.one_greeting_answer.Goals as goal

pub returns : goal.returns
returns c bytes a b is other = one_greeting_answer bytes a b is other
