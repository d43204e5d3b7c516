use Rattle.std.proofs.Common.{◌≡◌, map, take}
use Rattle.std.specs.List.{flat_map}
use Rattle.bayou_lang.specs.Changes.{op_key}
use Rattle.bayou_log.specs.Db.{database_of, room, HasRoomAt, KeepsRoom}
use Rattle.bayou_log.proofs.db.make_room_for_all.Given as goal

abbrev pub invariant-loop-alternative : goal.invariant-loop-alternative
invariant-loop-alternative l = record {
  same : database_of l.slots.entries ≡ database_of l.initial.slots.entries;
  keeps : KeepsRoom (room l.initial.slots.entries) (room l.slots.entries);
  made : HasRoomAt (room l.slots.entries) (flat_map (λ alt. map op_key alt.ops.items) (take l.alternative-index l.alternatives));
}
