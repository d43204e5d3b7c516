use Rattle.std.proofs.Common.{◌∙◌, sym}
use Rattle.std.specs.Cmp.Lexicographic.{bytes_decides}
use Rattle.bayou_explain.proofs.Stamps.{stamp-decides}
use Rattle.bayou_explain.proofs.refused.is_same.Goals as goal

pub returns-then-eq : goal.returns-then-eq
returns-then-eq c =
    let stamps = stamp-decides c.stamp.result c.args.stamp in
    let decides = bytes_decides c.deps.result.now c.args.deps.now in (
      λ is. (sym c.stamp.ensures ∙ stamps.0 (sym c.eq.ensures ∙ c.if-eq.true), sym c.deps.ensures ∙ decides.0 (sym c.eq-then-eq.ensures ∙ is)),
      λ same. c.eq-then-eq.ensures ∙ decides.1 (c.deps.ensures ∙ same.1),
    )
