use Rattle.std.proofs.Common.{None, arith, ap, ◌∙◌, length, slice_index_or}
use Rattle.std.proofs.lemmas.List.{length-set}
use Rattle.bayou_final.specs.Views.{either, within}
use Rattle.bayou_final.proofs.Front.{put_further}
use Rattle.bayou_final.proofs.views.Views.chosen.Goals as goal

pub loop-index-preserved : goal.loop-index-preserved
loop-index-preserved c = record {
  all = ap length c.set.ensures ∙ length-set c.loop-index.chosen c.loop-index.index c.chosen_of.result ∙ c.loop-index.invariant.all;
  so_far = put_further c.loop-index.chosen c.set.new.self c.loop-index.index c.chosen_of.result
      (λ place. either (within c.args.vector.now place (slice_index_or c.args.self.now place None)) (within c.args.vector.now place (slice_index_or c.args.others.now place None)))
      c.set.ensures (omega (arith, c.loop-index.invariant.all)) c.loop-index.invariant.so_far c.chosen_of.ensures;
}
