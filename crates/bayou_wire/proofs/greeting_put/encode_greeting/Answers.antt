use Rattle.std.proofs.lemmas.Result.{IfOk-weaker}
use Rattle.bayou_wire.specs.Laws.Inner.Greetings.{greeted_size}
use Rattle.bayou_wire.proofs.greeting_put.encode_greeting.Goals as goal

pub returns-clause-size : goal.returns-clause-size
returns-clause-size c = IfOk-weaker c.framed_greeting.result _ _ (λ bytes spells. greeted_size bytes.items c.args.greeting.now spells) c.framed_greeting.ensures
