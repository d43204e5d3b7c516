use Rattle.std.proofs.Common.{◌-◌, length, min, vec_capacity, vec_len, Ok, Err, OnOk, ap, sym, subst, arith}
use Rattle.bayou_lang.specs.Changes.{most_changes}
use Rattle.bayou_log.specs.Db.{room, HasRoomFor}
use Rattle.bayou_log.specs.Log.{IsReserved}
use Rattle.bayou_log.specs.Inner.Index.{AreIndexed}
use Rattle.bayou_log.specs.Inner.Fields.{AreKept}
use Rattle.bayou_log.proofs.Became.{AreOutcomes-more_room}
use Rattle.bayou_log.proofs.Agrees.{applied_few, AgreesWith-more_room, AreApplied-more_room, HasRoomForAll-more_room}
use Rattle.bayou_log.proofs.write_log.WriteLog.reserve.Goals as goal

pub invariant_of-self-2 : goal.invariant_of-self-2
invariant_of-self-2 c =
    let inside = c.self.inside in
    let writes = inside.writes.items in
    let same = c.in_ok-try_reserve.ensures.items in (
      subst (AreKept inside.count inside.limit) (sym same) c.self.invariant.0,
      AgreesWith-more_room writes c.try_reserve.new.self.items inside.db c.prepare.new.self inside.vector inside.clock same c.self.invariant.1 c.prepare.ensures.keeps,
      AreApplied-more_room writes c.try_reserve.new.self.items inside.order.items c.try_reserve-2.new.self.items inside.db c.prepare.new.self inside.undone.undos c.reserve-2.new.self.undos
          same c.in_ok-try_reserve-2.ensures.items c.reserve-2.ensures.same.0 c.prepare.ensures.same c.self.invariant.2,
      HasRoomForAll-more_room writes c.try_reserve.new.self.items (vec_capacity inside.order) (vec_capacity c.try_reserve-2.new.self) inside.undone c.reserve-2.new.self
          same c.self.invariant.3 c.reserve-2.ensures.same.1 (omega (arith, c.in_ok-try_reserve-2.ensures.ok), c.reserve-2.ensures.kept.0, c.reserve-2.ensures.kept.1),
      subst (AreIndexed c.reserve.new.self.rows) (sym same) (subst (λ rows. AreIndexed rows writes) (sym c.reserve.ensures.same) c.self.invariant.4),
      AreOutcomes-more_room writes c.try_reserve.new.self.items (length inside.order.items) (length c.try_reserve-2.new.self.items) inside.outcomes.items c.try_reserve-3.new.self.items
          (vec_capacity inside.outcomes) (vec_capacity c.try_reserve-3.new.self) same (ap length c.in_ok-try_reserve-2.ensures.items) c.in_ok-try_reserve-3.ensures.items
          (omega (arith, c.in_ok-try_reserve-3.ensures.ok)) c.self.invariant.5,
    )

pub returns-in_err-reserve-clause-kept : goal.returns-in_err-reserve-clause-kept
returns-in_err-reserve-clause-kept c = λ other had.
    let had = subst (λ log. IsReserved log.room other) (sym c.self.view_is) had in (
      omega (arith, had.0, c.in_ok-try_reserve.ensures.ok, c.in_ok-try_reserve.ensures.len, c.in_ok-try_reserve-2.ensures.ok, c.in_ok-try_reserve-2.ensures.len, c.in_ok-try_reserve-3.ensures.ok, c.in_ok-try_reserve-3.ensures.len, c.reserve.ensures.kept),
      had.1,
      had.2,
    )

pub returns-in_err-reserve-2-clause-kept : goal.returns-in_err-reserve-2-clause-kept
returns-in_err-reserve-2-clause-kept c = λ other had.
    let had = subst (λ log. IsReserved log.room other) (sym c.self.view_is) had in (
      omega (arith, had.0, c.in_ok-try_reserve.ensures.ok, c.in_ok-try_reserve.ensures.len, c.in_ok-try_reserve-2.ensures.ok, c.in_ok-try_reserve-2.ensures.len, c.in_ok-try_reserve-3.ensures.ok, c.in_ok-try_reserve-3.ensures.len, c.reserve-2.ensures.kept.1, c.reserve.ensures.kept),
      had.1,
      omega (arith, had.2, c.reserve-2.ensures.same.1, c.reserve-2.ensures.kept.0),
    )

pub returns-clause-kept : goal.returns-clause-kept
returns-clause-kept c = λ other had.
    let had = subst (λ log. IsReserved log.room other) (sym c.self.view_is) had in (
      omega (arith, had.0, c.in_ok-try_reserve.ensures.ok, c.in_ok-try_reserve.ensures.len, c.in_ok-try_reserve-2.ensures.ok, c.in_ok-try_reserve-2.ensures.len, c.in_ok-try_reserve-3.ensures.ok, c.in_ok-try_reserve-3.ensures.len, c.reserve-2.ensures.kept.1, c.reserve.ensures.kept),
      λ k d within. c.prepare.ensures.keeps _ (had.1 k d within),
      omega (arith, had.2, c.reserve-2.ensures.same.1, c.reserve-2.ensures.kept.0),
    )

pub reserve-requires-2-clause-held : goal.reserve-requires-2-clause-held
reserve-requires-2-clause-held c =
    let inside = c.self.inside in
    let few = applied_few inside.writes.items inside.order.items inside.db inside.undone.undos c.self.invariant.2 in
    omega (arith, few.0, few.1, c.len-held.ensures, inside.writes.ok.0)

pub returns-clause-ok : goal.returns-clause-ok
returns-clause-ok c =
    let inside = c.self.inside in
    elim c.prepare.result as (λ r. OnOk r (HasRoomFor (room c.prepare.new.self) c.program-2.result.now) → OnOk r (IsReserved (record {
      writes = min (min (vec_capacity c.try_reserve.new.self - vec_len c.try_reserve.new.self) (vec_capacity c.try_reserve-2.new.self - vec_len c.try_reserve.new.self)) (min (min (c.reserve-2.new.self.places - vec_len c.try_reserve.new.self) (vec_capacity c.try_reserve-3.new.self - vec_len c.try_reserve.new.self)) c.reserve.new.self.room);
      keys = room c.prepare.new.self;
      changes = c.reserve-2.new.self.room - c.reserve-2.new.self.promised;
    }) c.args.write.now)) [
      | Ok done ↦ λ prepared. (
        omega (
          arith,
          c.len-held.ensures,
          c.len.ensures,
          inside.writes.ok.0,
          c.in_ok-try_reserve.ensures.ok,
          c.in_ok-try_reserve.ensures.len,
          c.in_ok-try_reserve-2.ensures.ok,
          c.in_ok-try_reserve-2.ensures.len,
          c.in_ok-try_reserve-3.ensures.ok,
          c.in_ok-try_reserve-3.ensures.len,
          c.len-2.ensures,
          c.saturating_sub.ensures,
          c.in_ok-reserve-2.ensures.ok.1,
          c.in_ok-reserve.ensures.ok,
        ),
        subst (HasRoomFor (room c.prepare.new.self)) c.program-2.ensures prepared,
        omega (arith, c.in_ok-reserve-2.ensures.ok.0, c.most_changes.ensures.value, ap most_changes c.program.ensures),
      )
      | Err fault ↦ λ prepared. tt
    ] c.prepare.ensures.ok
