use Rattle.std.proofs.Common.{◌≡◌, ◌++◌, ◌∙◌, ap, length, arith}
use Rattle.bayou_wire.specs.Greetings.{greeting_payload}
use Rattle.bayou_wire.specs.Laws.Inner.Greetings.{greeting_is_short}
use Rattle.bayou_wire.proofs.greeting_put.framed_greeting.Goals as goal

pub packed_bytes-requires : goal.packed_bytes-requires
packed_bytes-requires c =
    let put = c.in_ok-put_greeting.ensures in
    let bytes : c.put_greeting.new.out.items ≡ greeting_payload c.args.greeting.now = put.1 ∙ ap (λ s. s ++ greeting_payload c.args.greeting.now) c.in_ok-payload.ensures.items in
    let short = greeting_is_short _ put.0 in
    omega (arith, short, ap length bytes, ap length c.deref.ensures.value)
