use Rattle.std.proofs.Common.{map, subst}
use Rattle.std.specs.List.{flat_map}
use Rattle.bayou_lang.specs.Changes.{op_key}
use Rattle.bayou_log.specs.Db.{room, HasRoomAt}
use Rattle.bayou_log.proofs.Slots.{HasRoomAt-append}
use Rattle.bayou_log.proofs.db.Db.prepare.Goals as goal

pub returns-in_ok-keep-clause-ok : goal.returns-in_ok-keep-clause-ok
returns-in_ok-keep-clause-ok c =
    HasRoomAt-append (room c.make_room_for.new.slots.entries) (room c.make_room_for_all.new.slots.entries)
    (map op_key c.args.program.now.update.items) (flat_map (λ alt. map op_key alt.ops.items) c.args.program.now.merge.items)
    c.in_ok-make_room_for_all.ensures.keeps
    (subst (λ ops. HasRoomAt (room c.make_room_for.new.slots.entries) (map op_key ops)) c.update.ensures.value c.in_ok-make_room_for.ensures.ok)
    (subst (λ alternatives. HasRoomAt (room c.make_room_for_all.new.slots.entries) (flat_map (λ alt. map op_key alt.ops.items) alternatives)) c.merge.ensures.value c.in_ok-make_room_for_all.ensures.ok)

pub returns-else-counts-clause-ok : goal.returns-else-counts-clause-ok
returns-else-counts-clause-ok c =
    HasRoomAt-append (room c.make_room_for.new.slots.entries) (room c.make_room_for_all.new.slots.entries)
    (map op_key c.args.program.now.update.items) (flat_map (λ alt. map op_key alt.ops.items) c.args.program.now.merge.items)
    c.in_ok-make_room_for_all.ensures.keeps
    (subst (λ ops. HasRoomAt (room c.make_room_for.new.slots.entries) (map op_key ops)) c.update.ensures.value c.in_ok-make_room_for.ensures.ok)
    (subst (λ alternatives. HasRoomAt (room c.make_room_for_all.new.slots.entries) (flat_map (λ alt. map op_key alt.ops.items) alternatives)) c.merge.ensures.value c.in_ok-make_room_for_all.ensures.ok)
