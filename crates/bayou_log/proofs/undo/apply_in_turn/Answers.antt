use Rattle.std.proofs.Common.{◌≡◌, ℕ, ◌+◌, ◌<◌, List, [], ◌∷◌, ◌++◌, ap, sym, ◌∙◌, drop, length, take, get_or, subst, refl, arith, append_assoc, length-append}
use Rattle.std.proofs.lemmas.List.{append-nil, at_drop_more, length-drop, take_more}
use Rattle.bayou_lang.specs.declared.change.Change.{Change}
use Rattle.bayou_lang.specs.declared.eval.Outcome.{Outcome}
use Rattle.bayou_lang.specs.declared.write.Write.{Write}
use Rattle.bayou_lang.specs.Changes.{most_changes}
use Rattle.bayou_lang.specs.Meaning.{mean}
use Rattle.bayou_log.specs.Db.{database_of, room, HasRoomFor, IsUndo}
use Rattle.bayou_log.specs.Inner.Fields.{outcomes_after, picked}
use Rattle.bayou_log.specs.Inner.Undone.{changes_in, changes_of, AddsUndone, Stack}
use Rattle.bayou_log.specs.Replay.{after_writes}
use Rattle.bayou_log.proofs.Agrees.{after_writes-append}
use Rattle.bayou_log.proofs.Picked.{picked-append, picked-cons}
use Rattle.bayou_log.proofs.Became.{outcomes_after-append}
use Rattle.bayou_log.proofs.Undone.{changes_in-push, AreUndos-append}
use Rattle.bayou_log.proofs.undo.apply_in_turn.Goals as goal

pub loop-at-init : goal.loop-at-init
loop-at-init c = record {
  now = refl;
  same_keys = refl;
  adds = record { more = []; undo = tt; only = ap (λ undos. record c.args.undone.now { undos = undos }) (sym (append-nil c.args.undone.now.undos)) };
  changes = c.requires.changes;
  entries = c.requires.entries;
  became = sym (append-nil c.args.outcomes.now.items);
  same_capacity = refl;
  left = omega (arith, c.requires.outcomes, c.args.outcomes.now.ok.0);
}

pub apply-outcome-requires : goal.apply-outcome-requires
apply-outcome-requires c =
    let at = get_or c.args.order.now c.loop-at.at-index 0 in
    let write = c.index-writes-at.result in
    let within : at < length c.args.writes.now = c.requires.inside c.loop-at.at-index 0 c.loop-at-test.true in
    let here : HasRoomFor (room c.loop-at.db) write.program =
    subst (λ (write : Write). HasRoomFor (room c.loop-at.db) write.program) (sym c.index-writes-at.is)
    (subst (λ keys. HasRoomFor keys (get_or c.args.writes.now at write).program) (sym c.loop-at.invariant.same_keys) (c.requires.room at write within)) in
    subst (HasRoomFor (room c.loop-at.db)) (sym c.program.ensures) here

-- the changes of the Writes that are left are those of the next one and of the others
changes_left : (writes : List Write) (order : List ℕ) (i : ℕ) (write : Write) → i < length order → get_or order i 0 < length writes → write ≡ get_or writes (get_or order i 0) write
    → changes_of (picked writes (drop i order)) ≡ most_changes write.program + changes_of (picked writes (drop (i + 1) order))
changes_left writes order i write more within is =
    at_drop_more (λ order. changes_of (picked writes order)) order i 0 more
    ∙ ap changes_of (picked-cons writes (get_or order i 0) (drop (i + 1) order) write within)
    ∙ ap (λ (next : Write). most_changes next.program + changes_of (picked writes (drop (i + 1) order))) (sym is)

-- the Writes so far, with the next one
picked_more : (writes : List Write) (order : List ℕ) (i : ℕ) (write : Write) → i < length order → get_or order i 0 < length writes → write ≡ get_or writes (get_or order i 0) write
    → picked writes (take (i + 1) order) ≡ picked writes (take i order) ++ write ∷ []
picked_more writes order i write more within is =
    ap (picked writes) (take_more order i 0 more)
    ∙ picked-append writes (take i order) (get_or order i 0 ∷ [])
    ∙ ap (λ list. picked writes (take i order) ++ list) (picked-cons writes (get_or order i 0) [] write within ∙ ap (λ (next : Write). next ∷ []) (sym is))

pub push-requires-clause-room : goal.push-requires-clause-room
push-requires-clause-room c =
    let within = c.requires.inside c.loop-at.at-index 0 c.loop-at-test.true in
    omega (
      arith,
      c.loop-at.invariant.changes,
      changes_left c.args.writes.now c.args.order.now c.loop-at.at-index c.index-writes-at.result c.loop-at-test.true within c.index-writes-at.is,
      c.apply-outcome.ensures.undo.few,
      ap most_changes c.program.ensures,
    )

pub loop-at-preserved : goal.loop-at-preserved
loop-at-preserved c =
    let writes = c.args.writes.now in
    let order = c.args.order.now in
    let i = c.loop-at.at-index in
    let write = c.index-writes-at.result in
    let first = database_of c.args.db.now in
    let done = picked writes (take i order) in
    let undo = c.apply-outcome.new.undo in
    let within = c.requires.inside i 0 c.loop-at-test.true in
    let more = picked_more writes order i write c.loop-at-test.true within c.index-writes-at.is in
    let undos_now : c.push.new.self.undos ≡ c.loop-at.undone.undos ++ undo ∷ [] = ap (λ (stack : Stack). stack.undos) c.push.ensures in
    let undoes : IsUndo write.program (after_writes done first) undo =
    subst (λ program. IsUndo program (after_writes done first) undo) c.program.ensures
    (subst (λ before. IsUndo c.program.result.now before undo) c.loop-at.invariant.now c.apply-outcome.ensures.undo) in
    let adds = c.loop-at.invariant.adds in
    record {
      now = c.apply-outcome.ensures.database
          ∙ ap (λ program. (mean program (database_of c.loop-at.db)).1) c.program.ensures
          ∙ ap (λ before. (mean write.program before).1) c.loop-at.invariant.now
          ∙ sym (after_writes-append done (write ∷ []) first)
          ∙ sym (ap (λ list. after_writes list first) more);
      same_keys = c.apply-outcome.ensures.room ∙ c.loop-at.invariant.same_keys;
      adds = subst (λ list. AddsUndone list first c.args.undone.now c.push.new.self) (sym more) (record {
        more = adds.more ++ undo ∷ [];
        undo = AreUndos-append adds.more (undo ∷ []) done (write ∷ []) first adds.undo (undoes, tt);
        only = c.push.ensures
            ∙ ap (λ (stack : Stack). record stack { undos = stack.undos ++ undo ∷ [] }) adds.only
            ∙ ap (λ undos. record c.args.undone.now { undos = undos }) (append_assoc c.args.undone.now.undos adds.more (undo ∷ []));
      });
      changes = omega (
        arith,
        c.loop-at.invariant.changes,
        changes_left writes order i write c.loop-at-test.true within c.index-writes-at.is,
        c.apply-outcome.ensures.undo.few,
        ap most_changes c.program.ensures,
        ap changes_in undos_now,
        changes_in-push c.loop-at.undone.undos undo,
        ap (λ (stack : Stack). stack.room) c.push.ensures,
      );
      entries = omega (
        arith,
        c.loop-at.invariant.entries,
        ap {A = List (List Change)} length undos_now,
        length-append c.loop-at.undone.undos (undo ∷ []),
        length-drop i order,
        length-drop (i + 1) order,
        c.loop-at-test.true,
        ap (λ (stack : Stack). stack.places) c.push.ensures,
      );
      became = c.push_reserved.ensures.items
          ∙ ap (λ items. items ++ c.apply-outcome.result ∷ []) c.loop-at.invariant.became
          ∙ append_assoc c.args.outcomes.now.items (outcomes_after done first) (c.apply-outcome.result ∷ [])
          ∙ ap (λ outcome. c.args.outcomes.now.items ++ (outcomes_after done first ++ outcome ∷ []))
          (c.apply-outcome.ensures.outcome ∙ ap (λ program. (mean program (database_of c.loop-at.db)).0) c.program.ensures ∙ ap (λ before. (mean write.program before).0) c.loop-at.invariant.now)
          ∙ ap (λ items. c.args.outcomes.now.items ++ items) (sym (outcomes_after-append done (write ∷ []) first))
          ∙ sym (ap (λ list. c.args.outcomes.now.items ++ outcomes_after list first) more);
      same_capacity = c.push_reserved.ensures.capacity ∙ c.loop-at.invariant.same_capacity;
      left = omega (
        arith,
        c.loop-at.invariant.left,
        ap {A = List Outcome} length c.push_reserved.ensures.items,
        length-append c.loop-at.outcomes.items (c.apply-outcome.result ∷ []),
        length-drop i order,
        length-drop (i + 1) order,
        c.loop-at-test.true,
        c.push_reserved.ensures.capacity,
      );
    }
