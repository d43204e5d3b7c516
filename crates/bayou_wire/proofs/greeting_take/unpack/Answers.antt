use Rattle.std.proofs.Common.{◌∙◌, arith}
use Rattle.bayou_wire.specs.Laws.Inner.Fronts.{has_length}
use Rattle.bayou_wire.proofs.greeting_take.unpack.Goals as goal

pub returns-then-len-gt-MAX_FRAME_BYTES : goal.returns-then-len-gt-MAX_FRAME_BYTES
returns-then-len-gt-MAX_FRAME_BYTES c =
    let length = has_length _ _ (λ i. omega (arith, c.type_inv.bytes i)) c.in-len2-up.len_at_least (c.from-len.ensures ∙ c.from_be_bytes.ensures) in
    (c.from-len.result, c.if-len-gt-MAX_FRAME_BYTES.true, length)
