use Rattle.std.proofs.Common.{◌≡◌, [], ◌∷◌, ◌++◌, cond, length, Some, None, Contains, IfSome, ap, sym, ◌∙◌, subst}
use Rattle.std.specs.BTreeMap.{is_at}
use Rattle.bayou_base.specs.declared.tag.Tag.{Tag}
use Rattle.bayou_tags.specs.declared.tags.Tags.TheInside.{Inside}
use Rattle.bayou_tags.specs.Tags.{TagList}
use Rattle.bayou_tags.specs.Inner.Places.{tag_cmp, place_in, ArePlaced}
use Rattle.bayou_tags.proofs.Placed.{ArePlaced-come}
use Rattle.bayou_tags.proofs.tags.Tags.reserve.Goals.{in-Some+in_ok-insert, in_default}
use Rattle.bayou_tags.proofs.tags.Tags.reserve.Goals as goal

pub invariant_of-self-2 : goal.invariant_of-self-2
invariant_of-self-2 c =
    let inside = c.self.inside in
    let tags = inside.tags.items in
    let nothing : inside.coming ≡ None = ap (λ (list : TagList). list.coming) c.self.view_is ∙ c.requires.nothing_comes in
    let empty = subst (λ coming. ArePlaced inside.places.entries (tags ++ coming ∷ [])) nothing c.self.invariant in
    let kept : c.try_reserve.new.self.items ≡ tags = c.in_ok-try_reserve.ensures.items in
    elim c.match-tag.branch [
      | in-Some+in_ok-insert w ↦
          let tag = w.in-Some.tag in
          let new = w.insert.new.self.entries in
          let at : w.len.result ≡ length tags = w.len.ensures ∙ c.try_reserve.new.self.ok.0 ∙ ap length kept in
          let was_new = subst (λ one. IfSome one (λ tag. Contains c.args.self.now.tags (Some tag) → ⊥)) w.in-Some.is c.requires.new in
          let fresh = subst (λ (list : TagList). Contains list.tags (Some tag) → ⊥) (sym c.self.view_is) was_new in
          let sets = subst (λ n. (other : Tag) → place_in new other ≡ cond (is_at (tag_cmp tag) other) (Some n) (place_in inside.places.entries other)) at w.in_ok-insert.ensures.updates.0 in
          let came = subst (λ list. ArePlaced new (list ++ Some tag ∷ [])) (sym kept) (ArePlaced-come inside.places.entries new tags tag empty fresh sets) in
          subst (λ (i : Inside). ArePlaced i.places.entries (i.tags.items ++ c.match-tag.tag ∷ [])) (sym w.self-inside-is)
          (subst (λ coming. ArePlaced new (c.try_reserve.new.self.items ++ coming ∷ [])) (sym w.tag-is) came)
      | in_default w ↦
          let same = subst (λ list. ArePlaced inside.places.entries (list ++ None ∷ [])) (sym kept) empty in
          subst (λ (i : Inside). ArePlaced i.places.entries (i.tags.items ++ c.match-tag.tag ∷ [])) (sym w.self-inside-is)
          (subst (λ coming. ArePlaced inside.places.entries (c.try_reserve.new.self.items ++ coming ∷ [])) (sym (w.tag-is ∙ w.in_default.is)) same)
    ]
