use Rattle.std.proofs.Common.{◌∙◌, ap, sym, take}
use Rattle.bayou_base.specs.Vector.{raised}
use Rattle.bayou_lang.specs.Writes.{raised_by}
use Rattle.bayou_peer.proofs.Items.{raised_by-push, take-one_more}
use Rattle.bayou_peer.proofs.sending.raise_all.Goals as goal

pub loop-write-preserved : goal.loop-write-preserved
loop-write-preserved c =
    let k = c.loop-write.write-index in
    let batch = c.args.batch.now in
    let write = c.write-item.result in
    let more = take-one_more batch k write c.loop-write-test.true c.write-item.is in
    c.raise.ensures ∙ ap (λ told. raised told c.wid.result) c.loop-write.invariant ∙ ap (raised (raised_by c.args.told.now (take k batch))) c.wid.ensures
    ∙ sym (raised_by-push c.args.told.now (take k batch) write) ∙ sym (ap (raised_by c.args.told.now) more)
