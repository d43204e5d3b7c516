use Rattle.std.proofs.Common.{◌∙◌, arith}
use Rattle.std.proofs.lemmas.Grind.{common_steps}
use Rattle.bayou_wire.specs.Laws.Inner.Fronts.{has_length, packs_at, faulty-packed}
use Rattle.bayou_wire.proofs.Giving.{packed_fault}
use Rattle.bayou_wire.proofs.front.front_of.Goals as goal

pub returns-then-len-gt-MAX_FRAME_BYTES : goal.returns-then-len-gt-MAX_FRAME_BYTES
returns-then-len-gt-MAX_FRAME_BYTES c =
    let length = has_length _ _ (λ i. omega (arith, c.type_inv.bytes i)) c.in-len2-up.len_at_least (c.from-len.ensures ∙ c.from_be_bytes.ensures) in
    (c.from-len.result, c.if-len-gt-MAX_FRAME_BYTES.true, length)

pub returns-in-Err-Fault : goal.returns-in-Err-Fault
returns-in-Err-Fault c =
    let packs = packs_at _ _ _ (λ i. omega (arith, c.type_inv.bytes i)) c.in-len2-up.len_at_least (c.from-len.ensures ∙ c.from_be_bytes.ensures) c.if-len-gt-MAX_FRAME_BYTES.false c.if-rest-len.false c.split_at.ensures.front c.in-len1-up.len_at_least in
    rw c.in-Err-Fault.field-0-is (faulty-packed _ _ _ _ _ packs (packed_fault _ _ _ _ c.in-Err-Fault.ensures c.in-Err-Fault.field-0-is))

pub returns-in-Ok : goal.returns-in-Ok
returns-in-Ok c = grind (arith, common_steps) steps 2000000
