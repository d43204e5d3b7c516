use Rattle.std.proofs.Common.{[], ◌∷◌, ◌++◌, None, ap, sym, ◌∙◌, subst}
use Rattle.bayou_tags.specs.Tags.{AreDistinct}
use Rattle.bayou_tags.proofs.Placed.{ArePlaced-push_none, AreDistinct-placed}
use Rattle.bayou_tags.proofs.tags.Tags.settle.Goals as goal

pub returns-clause-distinct : goal.returns-clause-distinct
returns-clause-distinct c =
    let inside = c.self.inside in
    let all = inside.tags.items ++ inside.coming ∷ [] in
    subst AreDistinct (sym (c.push_reserved.ensures.items ∙ ap (λ entry. inside.tags.items ++ entry ∷ []) c.take-tag.ensures.value))
    (AreDistinct-placed inside.places.entries all None (ArePlaced-push_none inside.places.entries all c.self.invariant))
