use Rattle.std.proofs.Common.{Some, Contains, IfSome, subst}
use Rattle.bayou_tags.specs.Tags.{TagList}
use Rattle.bayou_tags.proofs.Placed.{coming_is_new}
use Rattle.bayou_tags.proofs.tags.Tags.coming.Goals as goal

pub returns-clause-new : goal.returns-clause-new
returns-clause-new c =
    let inside = c.self.inside in
    subst (λ (list : TagList). IfSome inside.coming (λ tag. Contains list.tags (Some tag) → ⊥)) c.self.view_is
    (coming_is_new inside.places.entries inside.tags.items inside.coming c.self.invariant)
