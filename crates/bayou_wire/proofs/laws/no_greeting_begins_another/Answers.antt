use Rattle.bayou_wire.specs.Laws.Inner.Greetings.{greeting_begins_one}
use Rattle.bayou_wire.proofs.laws.no_greeting_begins_another.Goals as goal

pub returns : goal.returns
returns c a b x y is_a is_b same = greeting_begins_one a b x y is_a is_b same
