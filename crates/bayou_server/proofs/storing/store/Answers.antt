use Rattle.std.proofs.Common.{List, ℕ, ap, arith, length, refl, subst, sym}
use Rattle.bayou_wire.specs.Laws.Records.{record_is}
use Rattle.bayou_wire.specs.Records.{SpellsRecord}
use Rattle.bayou_wire.specs.declared.record.Form.TheVariants.{Wide}
use Rattle.bayou_server.specs.declared.holding.Holding.{Holding}
use Rattle.bayou_server.specs.Inner.Fields.{core_of}
use Rattle.bayou_server.proofs.Adding.{settled_stored, settled_stores, settled_together, Adds, Appends}
use Rattle.bayou_server.proofs.Steps.{stored_may_be_in_doubt}
use Rattle.bayou_server.proofs.storing.store.Given as given
use Rattle.bayou_server.proofs.storing.store.Goals as goal

-- what is held, once room was taken
reserved : (g : given.Over) → goal.After-drop-body-2 g → Holding
reserved g c = record { log = c.reserve.new.self; tags = c.reserve-2.new.self; doubt = c.args.holding.now.doubt; taking = c.args.holding.now.taking; together = c.args.holding.now.together }

adds : (g : given.Over) (c : goal.After-drop-body-2 g) → Adds c.args.journal.now c.args.holding.now (reserved g c) c.args.id.index c.args.tag c.args.write c.deref.result.now
unfolding reserved
adds g c = record {
  together = c.requires.together;
  up = c.requires.may.up;
  may = stored_may_be_in_doubt (core_of c.args.holding.now c.args.id.index) c.args.write c.requires.may
      (record_is Wide c.in_ok-body.body.items (record { write = c.args.write; tag = c.args.tag }) c.in_ok-body.ensures.spelling);
  its = (c.requires.tagged.new, c.requires.tagged.own.0);
  stands = record {
    spelled = subst (λ (b : List ℕ). SpellsRecord Wide b (record { write = c.args.write; tag = c.args.tag })) (sym c.deref.ensures.value) c.in_ok-body.ensures.spelling;
    tagged = c.requires.tagged.own;
  };
  same_log = c.reserve.ensures.same;
  same_tags = c.in_ok-reserve-2.ensures.ok;
  same_doubt = refl;
  same_taking = refl;
  same_together = refl;
  has_room = c.in_ok-reserve.ensures.ok;
  has_place = c.in_ok-reserve-2.ensures.room;
}

appends : (g : given.Over) (c : goal.After-drop-body-2 g) → Appends g.D.Device c.args.journal.now c.append-added.new.self c.deref.result.now c.append-added.result
appends g c = record {
  down = c.append-added.ensures.down.0;
  added = c.append-added.ensures.added;
  synced = c.append-added.ensures.synced;
  ends = c.append-added.ensures.ends;
  counts = c.append-added.ensures.counts;
  fault = c.append-added.ensures.fault;
  rose = c.append-added.ensures.rose;
  left = c.append-added.ensures.left;
}

pub returns-clause-together : goal.returns-clause-together
unfolding reserved
returns-clause-together g c =
    settled_together g.D.Device c.args.journal.now c.append-added.new.self c.args.holding.now (reserved g c) c.settle.new.holding c.args.id.index
    c.args.tag c.args.write c.deref.result.now c.append-added.result c.settle.result (adds g c) (appends g c) c.settle.ensures

pub returns-clause-stores : goal.returns-clause-stores
unfolding reserved
returns-clause-stores g c =
    settled_stores g.D.Device c.args.journal.now c.append-added.new.self c.args.holding.now (reserved g c) c.settle.new.holding c.args.id.index
    c.args.tag c.args.write c.deref.result.now c.append-added.result c.settle.result (adds g c) (appends g c) c.settle.ensures

pub returns-clause-stored : goal.returns-clause-stored
unfolding reserved
returns-clause-stored g c = λ modelled.
    settled_stored g.D.Device c.an_append_leaves_an_honest_device.ensures.more c.args.journal.now c.append-added.new.self c.args.holding.now (reserved g c) c.settle.new.holding c.args.id.index
    c.args.tag c.args.write c.deref.result.now c.append-added.result c.settle.result modelled
    (let long = c.in_ok-body.ensures.size in record { some = rw c.deref.ensures.value long.0; within = omega (arith, ap length c.deref.ensures.value, long.1) })
    (adds g c) (appends g c) c.settle.ensures
