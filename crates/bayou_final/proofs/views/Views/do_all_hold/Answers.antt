use Rattle.std.proofs.Common.{◌∙◌, Some, ap, rules}
use Rattle.bayou_final.proofs.Front.{one_further}
use Rattle.bayou_final.proofs.views.Views.do_all_hold.Goals as goal

pub loop-index-preserved : goal.loop-index-preserved
loop-index-preserved c =
    let (view, is, holds) = c.does_hold.ensures (search rules) in
    one_further _ _ c.loop-index.invariant (view, c.of.ensures ∙ ap Some is, holds)
