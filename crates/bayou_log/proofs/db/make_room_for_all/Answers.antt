use Rattle.std.proofs.Common.{map, subst, ◌∙◌}
use Rattle.bayou_lang.specs.Changes.{op_key}
use Rattle.bayou_log.specs.Db.{room, HasRoomAt}
use Rattle.bayou_log.proofs.Slots.{HasRoomAt-more, HasRoomAt-all}
use Rattle.bayou_log.proofs.db.make_room_for_all.Goals as goal

pub loop-alternative-preserved : goal.loop-alternative-preserved
loop-alternative-preserved c = record {
  same = c.in_ok-make_room_for.ensures.same ∙ c.loop-alternative.invariant.same;
  keeps = λ key had. c.in_ok-make_room_for.ensures.keeps key (c.loop-alternative.invariant.keeps key had);
  made = HasRoomAt-more (λ alt. map op_key alt.ops.items) (room c.loop-alternative.slots.entries) (room c.make_room_for.new.slots.entries)
      c.args.alternatives.now c.loop-alternative.alternative-index c.alternative-item.result c.loop-alternative-test.true c.alternative-item.is
      c.in_ok-make_room_for.ensures.keeps c.loop-alternative.invariant.made
      (subst (λ ops. HasRoomAt (room c.make_room_for.new.slots.entries) (map op_key ops)) c.ops.ensures.value c.in_ok-make_room_for.ensures.ok);
}

pub returns-clause-ok : goal.returns-clause-ok
returns-clause-ok c = HasRoomAt-all (λ alt. map op_key alt.ops.items) (room c.loop-alternative.slots.entries) c.args.alternatives.now c.loop-alternative.alternative-index c.loop-alternative-test.false c.loop-alternative.invariant.made
