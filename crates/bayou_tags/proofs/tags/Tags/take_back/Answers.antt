use Rattle.std.proofs.Common.{◌≡◌, ◌+◌, ◌-◌, [], ◌∷◌, ◌++◌, None, length, vec_len, ap, sym, ◌∙◌, subst, arith, length-append}
use Rattle.bayou_tags.specs.Inner.Places.{ArePlaced}
use Rattle.bayou_tags.specs.Tags.{TagList}
use Rattle.bayou_tags.proofs.Placed.{ArePlaced-pop_none, popped}
use Rattle.bayou_tags.proofs.tags.Tags.take_back.Goals as goal

pub invariant_of-self : goal.invariant_of-self
invariant_of-self c =
    let inside = c.self.inside in
    let tags = inside.tags.items in
    let new = c.pop.new.self.items in
    let front = c.requires.last.0 in
    let is : tags ≡ front ++ None ∷ [] = ap (λ (list : TagList). list.tags) c.self.view_is ∙ c.requires.last.1 in
    let nothing : inside.coming ≡ None = ap (λ (list : TagList). list.coming) c.self.view_is ∙ c.requires.nothing_comes in
    let left : new ≡ front = popped tags new front (vec_len inside.tags - 1) is c.pop.ensures.rest (omega (arith, inside.tags.ok.0, ap length is, length-append front (None ∷ []))) in
    subst (λ coming. ArePlaced inside.places.entries (new ++ coming ∷ [])) (sym nothing)
    (subst (ArePlaced inside.places.entries) (is ∙ ap (λ list. list ++ None ∷ []) (sym left))
    (ArePlaced-pop_none inside.places.entries tags (subst (λ coming. ArePlaced inside.places.entries (tags ++ coming ∷ [])) nothing c.self.invariant)))
