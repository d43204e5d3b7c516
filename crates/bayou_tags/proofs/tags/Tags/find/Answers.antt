use Rattle.std.proofs.Common.{◌≡◌, Some, Contains, MatchOption, slice_get, sym, subst, arith}
use Rattle.bayou_tags.specs.Tags.{TagList}
use Rattle.bayou_tags.proofs.Placed.{no_place, place_before, place_behind}
use Rattle.bayou_tags.proofs.tags.Tags.find.Goals as goal

pub returns-in_err-at : goal.returns-in_err-at
returns-in_err-at c =
    let inside = c.self.inside in
    subst (λ at. MatchOption at (Contains c.args.self.now.tags (Some c.args.tag) → ⊥) (λ at. slice_get c.args.self.now.tags at ≡ Some (Some c.args.tag))) (sym c.from_residual.ensures)
    (subst (λ (list : TagList). Contains list.tags (Some c.args.tag) → ⊥) c.self.view_is
    (no_place inside.places.entries inside.tags.items inside.coming c.args.tag c.self.invariant (sym c.in_err-at.ensures.value)))

pub returns-then-at-len : goal.returns-then-at-len
returns-then-at-len c =
    let inside = c.self.inside in
    subst (λ (list : TagList). slice_get list.tags c.in_ok-at.field-0.now ≡ Some (Some c.args.tag)) c.self.view_is
    (place_before inside.places.entries inside.tags.items inside.coming c.args.tag c.in_ok-at.field-0.now c.self.invariant (sym c.in_ok-at.ensures.value)
    (omega (arith, c.if-at-len.true, c.len.ensures, inside.tags.ok.0)))

pub returns-else-at-len : goal.returns-else-at-len
returns-else-at-len c =
    let inside = c.self.inside in
    subst (λ (list : TagList). Contains list.tags (Some c.args.tag) → ⊥) c.self.view_is
    (place_behind inside.places.entries inside.tags.items inside.coming c.args.tag c.in_ok-at.field-0.now c.self.invariant (sym c.in_ok-at.ensures.value)
    (omega (arith, c.if-at-len.false, c.len.ensures, inside.tags.ok.0)))
