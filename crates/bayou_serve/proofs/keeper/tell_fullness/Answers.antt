use Rattle.std.proofs.Common.{◌∙◌, ap, subst, sum}
use Rattle.bayou_serve.specs.Fullness.{IsFullness}
use Rattle.bayou_serve.proofs.keeper.tell_fullness.Goals as goal

pub returns-else-is_some : goal.returns-else-is_some
returns-else-is_some g c =
    let (core, kept, counts) = c.offer.ensures in
    let (full, is, tells, told) = c.step_to_tell.ensures in
    (core, kept, (full, subst (λ held. IsFullness held c.args.limit full) (c.sum_of-held.ensures ∙ ap sum counts) is, told))
