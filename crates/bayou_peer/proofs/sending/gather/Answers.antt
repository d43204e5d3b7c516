use Rattle.std.proofs.Common.{◌∙◌, ap, subst, sym, [], ◌∷◌, ◌++◌, take}
use Rattle.std.specs.List.{AllByRecursion}
use Rattle.bayou_lang.specs.Ranges.{IsWrite}
use Rattle.bayou_frames.specs.Spelled.{item_bytes}
use Rattle.bayou_peer.proofs.Items.{all-append, item_bytes-push, take-one_more}
use Rattle.bayou_peer.proofs.sending.gather.Goals as goal

pub loop-write-preserved : goal.loop-write-preserved
loop-write-preserved c =
    let k = c.loop-write.write-index in
    let batch = c.args.batch.now in
    let write = c.write-item.result in
    let more = take-one_more batch k write c.loop-write-test.true c.write-item.is in
    let spells = c.in_ok-encode_item.ensures.spelling in
    record {
      spelled = c.in_ok-extend_from_slice.ensures.items ∙ ap (λ bytes. c.loop-write.text.items ++ bytes) c.deref.ensures.value
          ∙ item_bytes-push (take k batch) write c.loop-write.text.items _ c.loop-write.invariant.spelled spells ∙ sym (ap item_bytes more);
      each = subst (AllByRecursion IsWrite) (sym more) (all-append IsWrite (take k batch) (write ∷ []) c.loop-write.invariant.each (spells.is, tt));
    }
