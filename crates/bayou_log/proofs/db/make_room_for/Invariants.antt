use Rattle.std.proofs.Common.{◌≡◌, ◌∷◌, [], take}
use Rattle.std.specs.List.{flat_map}
use Rattle.bayou_lang.specs.Changes.{op_key}
use Rattle.bayou_log.specs.Db.{database_of, room, HasRoomAt, KeepsRoom}
use Rattle.bayou_log.proofs.db.make_room_for.Given as goal

abbrev pub invariant-loop-op : goal.invariant-loop-op
invariant-loop-op l = record {
  same : database_of l.slots.entries ≡ database_of l.initial.slots.entries;
  keeps : KeepsRoom (room l.initial.slots.entries) (room l.slots.entries);
  made : HasRoomAt (room l.slots.entries) (flat_map (λ op. op_key op ∷ []) (take l.op-index l.ops));
}
