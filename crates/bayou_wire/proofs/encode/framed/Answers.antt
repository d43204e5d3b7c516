use Rattle.std.proofs.Common.{◌≡◌, ◌++◌, ◌∙◌, ap, length, arith}
use Rattle.bayou_wire.specs.Spelling.{payload_bytes}
use Rattle.bayou_wire.specs.Laws.Inner.Sizes.{payload_is_short}
use Rattle.bayou_wire.proofs.encode.framed.Goals as goal

pub packed_bytes-requires : goal.packed_bytes-requires
packed_bytes-requires c =
    let put = c.in_ok-put_payload.ensures in
    let bytes : c.put_payload.new.out.items ≡ payload_bytes c.args.frame.now = put.1 ∙ ap (λ s. s ++ payload_bytes c.args.frame.now) c.in_ok-payload.ensures.items in
    let short = payload_is_short _ put.0 in
    omega (arith, short, ap length bytes, ap length c.deref.ensures.value)
