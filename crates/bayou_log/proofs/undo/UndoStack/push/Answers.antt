use Rattle.std.proofs.Common.{◌≡◌, ◌≤◌, ◌++◌, ◌∷◌, [], List, All, ap, sym, ◌∙◌, length, arith, length-append, subst}
use Rattle.std.proofs.lemmas.List.Elements.{All-push}
use Rattle.bayou_base.specs.declared.limits.TheConstants.{MAX_OPS}
use Rattle.bayou_lang.specs.declared.change.Change.{Change}
use Rattle.bayou_log.specs.Inner.ChangeList.{Listed}
use Rattle.bayou_log.specs.Inner.Undone.{all_of, changes_in, undos_of, Stack}
use Rattle.bayou_log.proofs.Undone.{all_of-push, changes_in-undos_of, length-undos_of, same_stack, undos_of-push}
use Rattle.bayou_log.proofs.undo.UndoStack.push.Goals as goal

pub push_reserved-requires : goal.push_reserved-requires
push_reserved-requires c =
    omega (arith, c.requires.places, length-undos_of c.self.inside.sizes.items c.self.inside.changes.items, ap (λ (stack : Stack). length stack.undos) c.self.view_is, ap (λ (stack : Stack). stack.places) c.self.view_is, c.self.inside.sizes.ok.0)

pub push_all-requires : goal.push_all-requires
push_all-requires c =
    let sizes = c.self.inside.sizes.items in
    let changes = c.self.inside.changes.items in
    omega (arith, c.requires.room, changes_in-undos_of sizes changes c.self.invariant.0, ap (λ (stack : Stack). changes_in stack.undos) c.self.view_is, ap (λ (stack : Stack). stack.room) c.self.view_is, ap {A = List Change} length c.undo.view_is, ap {A = List Change} length c.as_slice.ensures.value)

pub invariant_of-self : goal.invariant_of-self
invariant_of-self c =
    let sizes = c.self.inside.sizes.items in
    let changes = c.self.inside.changes.items in
    let before = c.undo.inside.before.items in
    let as_many : all_of c.push_reserved.new.self.items ≡ length c.push_all.new.list.items = omega (
      arith,
      ap all_of c.push_reserved.ensures.items,
      all_of-push sizes c.len.result,
      c.self.invariant.0,
      ap (λ (list : Listed). length list.items) c.push_all.ensures,
      length-append changes c.as_slice.result.now,
      ap {A = List Change} length c.as_slice.ensures.value,
      c.len.ensures.value,
    ) in
    let small = subst (All (λ size. size ≤ MAX_OPS)) (sym c.push_reserved.ensures.items)
    (All-push (λ size. size ≤ MAX_OPS) sizes c.len.result c.self.invariant.1 c.len.ensures.fits) in
    (as_many, small, omega (arith, c.self.invariant.2, ap (λ (list : Listed). list.room) c.push_all.ensures))

pub returns : goal.returns
returns c =
    let sizes = c.self.inside.sizes.items in
    let changes = c.self.inside.changes.items in
    let before = c.undo.inside.before.items in
    let pushed : undos_of c.push_reserved.new.self.items c.push_all.new.list.items ≡ c.args.self.now.undos ++ c.args.undo.now ∷ [] =
    ap (λ sizes. undos_of sizes c.push_all.new.list.items) c.push_reserved.ensures.items
    ∙ ap (λ (list : Listed). undos_of (sizes ++ c.len.result ∷ []) list.items) c.push_all.ensures
    ∙ ap (λ list. undos_of (sizes ++ c.len.result ∷ []) (changes ++ list)) c.as_slice.ensures.value
    ∙ undos_of-push sizes changes before c.len.result c.self.invariant.0 c.len.ensures.value
    ∙ ap (λ (stack : Stack). stack.undos ++ before ∷ []) c.self.view_is
    ∙ ap (λ undo. c.args.self.now.undos ++ undo ∷ []) c.undo.view_is in
    same_stack _ _ _ _ _ _ _ _ pushed (ap (λ (stack : Stack). stack.promised) c.self.view_is) (ap (λ (list : Listed). list.room) c.push_all.ensures ∙ ap (λ (stack : Stack). stack.room) c.self.view_is)
    (c.push_reserved.ensures.capacity ∙ ap (λ (stack : Stack). stack.places) c.self.view_is)
