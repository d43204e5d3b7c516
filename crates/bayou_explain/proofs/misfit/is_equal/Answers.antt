use Rattle.std.proofs.Common.{◌∙◌, sym}
use Rattle.bayou_lang.specs.Laws.Equality.{same_write-decides}
use Rattle.bayou_explain.proofs.misfit.is_equal.Goals as goal

pub returns : goal.returns
returns c =
    let decides = same_write-decides c.args.held.now c.args.write.now in
    (λ is. decides.0 (sym c.eq.ensures ∙ is), λ same. c.eq.ensures ∙ decides.1 same)
