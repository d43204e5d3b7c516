use Rattle.std.proofs.Common.{◌≤◌, ◌∷◌, ◌++◌, ◌≡◌, [], List, Some, All, IsTrue, ap, sym, ◌∙◌, drop, length, take, arith, length-append, subst}
use Rattle.std.proofs.lemmas.List.{drop-append-le, take-append-le}
use Rattle.std.proofs.lemmas.List.Elements.{All-pop}
use Rattle.bayou_lang.specs.declared.change.Change.{Change}
use Rattle.bayou_lang.specs.Changes.{after_changes}
use Rattle.bayou_log.specs.Db.{database_of, room, has_room}
use Rattle.bayou_log.proofs.Slots.{after_changes-push}
use Rattle.bayou_log.proofs.undo.pop_changes.Goals as goal

pub change-requires : goal.change-requires
change-requires c =
    let left = c.args.left in
    let old = c.loop-list.list.items in
    let new = c.pop.new.self.items in
    let change = c.in-Some.change in
    let Reached : Change → Type 0 = λ change. IsTrue (has_room (room c.loop-list.db) change.key) in
    let within : left ≤ length new = omega (arith, c.loop-list-test.true, c.len.ensures, ap {A = List Change} length c.in-Some.ensures.items, length-append new (change ∷ [])) in
    let is : drop left old ≡ drop left new ++ change ∷ [] = ap (drop left) c.in-Some.ensures.items ∙ drop-append-le left new (change ∷ []) within in
    (All-pop Reached (drop left old) (drop left new) (Some change) is c.loop-list.invariant.reached).1

pub loop-list-preserved : goal.loop-list-preserved
loop-list-preserved c =
    let left = c.args.left in
    let old = c.loop-list.list.items in
    let new = c.pop.new.self.items in
    let change = c.in-Some.change in
    let was = database_of c.loop-list.db in
    let Reached : Change → Type 0 = λ change. IsTrue (has_room (room c.loop-list.db) change.key) in
    let within : left ≤ length new = omega (arith, c.loop-list-test.true, c.len.ensures, ap {A = List Change} length c.in-Some.ensures.items, length-append new (change ∷ [])) in
    let is : drop left old ≡ drop left new ++ change ∷ [] = ap (drop left) c.in-Some.ensures.items ∙ drop-append-le left new (change ∷ []) within in
    let reached = (All-pop Reached (drop left old) (drop left new) (Some change) is c.loop-list.invariant.reached).0 in
    record {
      target = ap (after_changes (drop left new)) c.change.ensures.database
          ∙ sym (after_changes-push (drop left new) change was)
          ∙ sym (ap (λ changes. after_changes changes was) is)
          ∙ c.loop-list.invariant.target;
      same_front = sym (take-append-le left new (change ∷ []) within) ∙ sym (ap (take left) c.in-Some.ensures.items) ∙ c.loop-list.invariant.same_front;
      same_keys = c.change.ensures.room ∙ c.loop-list.invariant.same_keys;
      same_room = c.pop.ensures.room ∙ c.loop-list.invariant.same_room;
      within = within;
      reached = subst (λ keys. All (λ (change : Change). IsTrue (has_room keys change.key)) (drop left new)) (sym c.change.ensures.room) reached;
    }
