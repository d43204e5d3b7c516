use Rattle.std.proofs.Common.{◌∙◌, Some, ap, rules}
use Rattle.bayou_final.proofs.Front.{one_further}
use Rattle.bayou_final.proofs.views.Views.is_known.Goals as goal

pub loop-index-preserved : goal.loop-index-preserved
loop-index-preserved c =
    let (view, is, holds) = c.does_cover.ensures.0 (search rules) in
    one_further _ _ c.loop-index.invariant (view, c.of.ensures ∙ ap Some is, holds)
