use Rattle.std.proofs.Common.{◌++◌, ◌∙◌, ap, refl}
use Rattle.bayou_wire.specs.declared.record.Form.TheVariants.{Wide}
use Rattle.bayou_wire.specs.Laws.Records.{record_size}
use Rattle.bayou_wire.specs.Records.{record_head}
use Rattle.bayou_wire.specs.Spelling.{write_bytes}
use Rattle.bayou_wire.proofs.record.encode_record.Goals as goal

pub returns-clause-size : goal.returns-clause-size
returns-clause-size c =
    let write = c.args.write.now in
    let tag = c.args.tag in
    let head = c.in_ok-put_head.ensures in
    let put = c.in_ok-put_resting_write.ensures in
    let whole = put.1 ∙ ap (λ front. front ++ write_bytes write) (head.1 ∙ ap (λ front. front ++ record_head tag) c.in_ok-bytes.ensures.items) in
    record_size Wide c.put_resting_write.new.out.items (record { write = write; tag = tag })
    (head.0, (write_bytes write, whole, record { is = put.0; spelled = refl }))
