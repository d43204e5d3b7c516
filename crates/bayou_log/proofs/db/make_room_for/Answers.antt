use Rattle.std.proofs.Common.{◌∷◌, [], subst, ◌∙◌, IsTrue}
use Rattle.std.proofs.lemmas.List.Elements.{All-cons, All-nil}
use Rattle.bayou_lang.specs.Changes.{op_key}
use Rattle.bayou_log.specs.Db.{room, has_room, HasRoomAt}
use Rattle.bayou_log.proofs.Slots.{HasRoomAt-more, HasRoomAt-all, op_keys}
use Rattle.bayou_log.proofs.db.make_room_for.Goals as goal

pub loop-op-preserved : goal.loop-op-preserved
loop-op-preserved c =
    let made : IsTrue (has_room (room c.make_room.new.slots.entries) (op_key c.op-item.result)) =
    subst (λ key. IsTrue (has_room (room c.make_room.new.slots.entries) key)) c.key_of.ensures c.in_ok-make_room.ensures.ok in
    record {
      same = c.in_ok-make_room.ensures.same ∙ c.loop-op.invariant.same;
      keeps = λ key had. c.in_ok-make_room.ensures.keeps key (c.loop-op.invariant.keeps key had);
      made = HasRoomAt-more (λ op. op_key op ∷ []) (room c.loop-op.slots.entries) (room c.make_room.new.slots.entries)
          c.args.ops.now c.loop-op.op-index c.op-item.result c.loop-op-test.true c.op-item.is
          c.in_ok-make_room.ensures.keeps c.loop-op.invariant.made
          (All-cons (λ key. IsTrue (has_room (room c.make_room.new.slots.entries) key)) (op_key c.op-item.result) [] made
          (All-nil (λ key. IsTrue (has_room (room c.make_room.new.slots.entries) key))));
    }

pub returns-clause-ok : goal.returns-clause-ok
returns-clause-ok c =
    subst (HasRoomAt (room c.loop-op.slots.entries)) (op_keys c.args.ops.now)
    (HasRoomAt-all (λ op. op_key op ∷ []) (room c.loop-op.slots.entries) c.args.ops.now c.loop-op.op-index c.loop-op-test.false c.loop-op.invariant.made)
