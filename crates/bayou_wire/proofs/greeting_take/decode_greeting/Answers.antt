use Rattle.bayou_wire.specs.Laws.Inner.Greetings.{answer-fault, answer-packed, one_greeting_answer}
use Rattle.bayou_wire.proofs.greeting_take.decode_greeting.Goals as goal

pub returns-in-Err-clause-only : goal.returns-in-Err-clause-only
returns-in-Err-clause-only c other is = one_greeting_answer _ _ other (answer-fault _ _ c.in-Err.ensures) is

pub returns-in-Ok-clause-only : goal.returns-in-Ok-clause-only
returns-in-Ok-clause-only c other is = one_greeting_answer _ _ other (answer-packed _ _ _ _ _ c.in-Ok.ensures c.unpacked_greeting.ensures) is
