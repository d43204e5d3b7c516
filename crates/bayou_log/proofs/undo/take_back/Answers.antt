use Rattle.std.proofs.Common.{◌≤◌, ◌∷◌, [], List, Some, All, IsTrue, ap, sym, ◌∙◌, drop, length, take, arith, length-append, subst}
use Rattle.std.proofs.lemmas.List.{drop-append-le, take-append-le}
use Rattle.std.proofs.lemmas.List.Elements.{All-pop}
use Rattle.bayou_lang.specs.declared.change.Change.{Change}
use Rattle.bayou_log.specs.Db.{database_of, room, has_room}
use Rattle.bayou_log.specs.Inner.Undone.{after_undoing, Stack}
use Rattle.bayou_log.proofs.Undone.{after_undoing-push}
use Rattle.bayou_log.proofs.undo.take_back.Goals as goal

pub loop-undone-preserved : goal.loop-undone-preserved
loop-undone-preserved c =
    let left = c.args.left in
    let old = c.loop-undone.undone.undos in
    let told = c.undo_last.ensures in
    let new = told.undos in
    let undo = told.undo in
    let was = database_of c.loop-undone.db in
    let Reached : List Change → Type 0 = λ undo. All (λ change. IsTrue (has_room (room c.loop-undone.db) change.key)) undo in
    let reached = (All-pop Reached old new (Some undo) told.last c.loop-undone.invariant.reached).0 in
    let within : left ≤ length new = omega (arith, c.loop-undone-test.true, c.len.ensures, ap {A = List (List Change)} length told.last, length-append new (undo ∷ [])) in
    let is = ap (λ (stack : Stack). stack.undos) told.only in
    record {
      target = ap (λ undos. after_undoing (drop left undos) (database_of c.undo_last.new.db)) is
          ∙ ap (after_undoing (drop left new)) told.database
          ∙ sym (after_undoing-push (drop left new) undo was)
          ∙ sym (ap (λ undos. after_undoing undos was) (ap (drop left) told.last ∙ drop-append-le left new (undo ∷ []) within))
          ∙ c.loop-undone.invariant.target;
      same_front = ap (take left) is ∙ sym (take-append-le left new (undo ∷ []) within) ∙ sym (ap (take left) told.last) ∙ c.loop-undone.invariant.same_front;
      same_keys = told.same_room ∙ c.loop-undone.invariant.same_keys;
      same_promise = ap (λ (stack : Stack). stack.promised) told.only ∙ c.loop-undone.invariant.same_promise;
      same_room = ap (λ (stack : Stack). stack.room) told.only ∙ c.loop-undone.invariant.same_room;
      same_places = ap (λ (stack : Stack). stack.places) told.only ∙ c.loop-undone.invariant.same_places;
      within = subst (λ undos. left ≤ length undos) (sym is) within;
      reached = subst (λ undos. All (λ undo. All (λ (change : Change). IsTrue (has_room (room c.undo_last.new.db) change.key)) undo) undos) (sym is)
          (subst (λ keys. All (λ undo. All (λ (change : Change). IsTrue (has_room keys change.key)) undo) new) (sym told.same_room) reached);
    }
