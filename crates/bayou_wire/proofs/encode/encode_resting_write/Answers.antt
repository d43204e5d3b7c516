use Rattle.std.proofs.Common.{◌++◌, ◌∙◌, ap}
use Rattle.bayou_wire.specs.Spelling.{write_bytes}
use Rattle.bayou_wire.specs.Laws.Inner.Sizes.{written_size}
use Rattle.bayou_wire.proofs.encode.encode_resting_write.Goals as goal

pub returns-clause-size : goal.returns-clause-size
returns-clause-size c =
    let write = c.args.write.now in
    let put = c.in_ok-put_resting_write.ensures in
    written_size c.put_resting_write.new.out.items write put.0 (put.1 ∙ ap (λ s. s ++ write_bytes write) c.in_ok-bytes.ensures.items)
