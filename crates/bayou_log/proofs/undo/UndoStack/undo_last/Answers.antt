use Rattle.std.proofs.Common.{◌≡◌, ◌+◌, ◌-◌, ◌≤◌, List, Some, All, IsTrue, ap, sym, ◌∙◌, drop, length, take, arith}
use Rattle.std.proofs.lemmas.List.{length-take-le}
use Rattle.std.proofs.lemmas.List.Elements.{All-pop}
use Rattle.bayou_base.specs.declared.limits.TheConstants.{MAX_OPS}
use Rattle.bayou_lang.specs.declared.change.Change.{Change}
use Rattle.bayou_log.specs.Db.{room, has_room}
use Rattle.bayou_log.specs.Inner.ChangeList.{Listed}
use Rattle.bayou_log.specs.Inner.Undone.{all_of, undos_of, Stack}
use Rattle.bayou_log.proofs.Undone.{all_of-push, same_stack, undos_of-last}
use Rattle.bayou_log.proofs.undo.UndoStack.undo_last.Goals as goal

pub overflow_sub-left : goal.overflow_sub-left
overflow_sub-left c =
    omega (arith, ap all_of c.in-Some.ensures.items, all_of-push c.pop.new.self.items c.in-Some.size, c.self.invariant.0, c.len.ensures, c.from.ensures)

pub pop_changes-requires-clause-room : goal.pop_changes-requires-clause-room
pop_changes-requires-clause-room c =
    let sizes = c.self.inside.sizes.items in
    let rest = c.pop.new.self.items in
    let changes = c.self.inside.changes.items in
    let size = c.in-Some.size in
    let left = c.len.result - c.from.result in
    let Reached : List Change → Type 0 = λ undo. All (λ change. IsTrue (has_room (room c.args.db.now) change.key)) undo in
    let whole : left + size ≡ length changes = omega (arith, ap all_of c.in-Some.ensures.items, all_of-push rest size, c.self.invariant.0, c.len.ensures, c.from.ensures) in
    let is = sym (ap (λ (stack : Stack). stack.undos) c.self.view_is) ∙ undos_of-last sizes rest changes size left c.in-Some.ensures.items c.self.invariant.0 whole in
    (All-pop Reached c.args.self.now.undos (undos_of rest (take left changes)) (Some (drop left changes)) is c.requires.room).1

pub invariant_of-self : goal.invariant_of-self
invariant_of-self c =
    let rest = c.pop.new.self.items in
    let changes = c.self.inside.changes.items in
    let size = c.in-Some.size in
    let left = c.len.result - c.from.result in
    let whole : left + size ≡ length changes = omega (arith, ap all_of c.in-Some.ensures.items, all_of-push rest size, c.self.invariant.0, c.len.ensures, c.from.ensures) in (
      omega (
        arith,
        ap all_of c.in-Some.ensures.items,
        all_of-push rest size,
        c.self.invariant.0,
        whole,
        ap (λ (list : Listed). length list.items) c.pop_changes.ensures.list,
        length-take-le left changes (omega (arith, whole)),
      ),
      (All-pop (λ size. size ≤ MAX_OPS) c.self.inside.sizes.items rest (Some size) c.in-Some.ensures.items c.self.invariant.1).0,
      omega (arith, c.self.invariant.2, ap (λ (list : Listed). list.room) c.pop_changes.ensures.list),
    )

pub returns : goal.returns
returns c =
    let sizes = c.self.inside.sizes.items in
    let rest = c.pop.new.self.items in
    let changes = c.self.inside.changes.items in
    let size = c.in-Some.size in
    let left = c.len.result - c.from.result in
    let whole : left + size ≡ length changes = omega (arith, ap all_of c.in-Some.ensures.items, all_of-push rest size, c.self.invariant.0, c.len.ensures, c.from.ensures) in
    record {
      undos = undos_of rest (take left changes);
      undo = drop left changes;
      last = sym (ap (λ (stack : Stack). stack.undos) c.self.view_is) ∙ undos_of-last sizes rest changes size left c.in-Some.ensures.items c.self.invariant.0 whole;
      only = same_stack _ _ _ _ _ _ _ _ (ap (λ (list : Listed). undos_of rest list.items) c.pop_changes.ensures.list) (ap (λ (stack : Stack). stack.promised) c.self.view_is)
          (ap (λ (list : Listed). list.room) c.pop_changes.ensures.list ∙ ap (λ (stack : Stack). stack.room) c.self.view_is)
          (c.pop.ensures.capacity ∙ ap (λ (stack : Stack). stack.places) c.self.view_is);
      database = c.pop_changes.ensures.database;
      same_room = c.pop_changes.ensures.room;
    }
