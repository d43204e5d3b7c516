use Rattle.std.proofs.Common.{◌≡◌, ◌++◌, ◌∙◌, ap, length, arith}
use Rattle.bayou_wire.specs.declared.frame.Frame.TheVariants.{Item}
use Rattle.bayou_wire.specs.Spelling.{write_bytes}
use Rattle.bayou_wire.specs.Laws.Inner.Sizes.{payload_is_short}
use Rattle.bayou_wire.proofs.encode.framed_item.Goals as goal

pub packed_bytes-requires : goal.packed_bytes-requires
packed_bytes-requires c =
    let put = c.in_ok-put_resting_write.ensures in
    let bytes : c.put_resting_write.new.out.items ≡ write_bytes c.args.write.now = put.1 ∙ ap (λ s. s ++ write_bytes c.args.write.now) c.in_ok-payload.ensures.items in
    let short = payload_is_short (Item c.args.write.now) put.0 in
    omega (arith, short, ap length bytes, ap length c.deref.ensures.value)
