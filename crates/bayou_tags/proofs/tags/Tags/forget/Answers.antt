use Rattle.std.proofs.Common.{[], ◌∷◌, ◌++◌, sym, ◌∙◌, subst}
use Rattle.bayou_tags.specs.Inner.Places.{ArePlaced}
use Rattle.bayou_tags.proofs.Placed.{ArePlaced-forget}
use Rattle.bayou_tags.proofs.tags.Tags.forget.Goals as goal

pub invariant_of-self : goal.invariant_of-self
invariant_of-self c =
    let inside = c.self.inside in
    let tags = inside.tags.items in
    let came = subst (λ coming. ArePlaced inside.places.entries (tags ++ coming ∷ [])) (sym c.take.ensures.value ∙ c.in-Some.is) c.self.invariant in
    subst (λ coming. ArePlaced c.remove.new.self.entries (tags ++ coming ∷ [])) (sym c.take.ensures.after)
    (ArePlaced-forget inside.places.entries c.remove.new.self.entries tags c.in-Some.tag came c.remove.ensures.updates.0)
