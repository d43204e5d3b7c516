use Rattle.std.proofs.Common.{◌∙◌, arith}
use Rattle.bayou_wire.specs.Laws.Inner.Fronts.{has_length}
use Rattle.bayou_wire.proofs.decode.frame_len.Goals as goal

pub returns : goal.returns
returns c =
    let counted = has_length _ _ (λ i. omega (arith, c.type_inv.bytes i)) c.in-len2-up.len_at_least (c.from.ensures ∙ c.from_be_bytes.ensures) in
    (c.from.result, counted, omega arith)
