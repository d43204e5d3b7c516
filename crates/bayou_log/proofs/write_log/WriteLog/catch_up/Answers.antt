use Rattle.std.proofs.Common.{◌≡◌, ◌-◌, ◌≤◌, ◌++◌, List, vec_capacity, length, take, drop, All, IsTrue, vec_len, sym, ◌∙◌, ap, refl, subst, arith}
use Rattle.std.proofs.lemmas.List.{length-drop, take_all}
use Rattle.bayou_lang.specs.declared.write.Write.{Write}
use Rattle.bayou_lang.specs.Database.{empty}
use Rattle.bayou_lang.specs.Laws.Fitting.{fitting_distinct_stamps}
use Rattle.bayou_lang.specs.Writes.{in_stamp_order, HaveDistinctStamps}
use Rattle.bayou_log.specs.Db.{database_of, room, has_room, HasRoomFor}
use Rattle.bayou_log.specs.Inner.Fields.{outcomes_after, picked, AreApplied, AreOutcomes}
use Rattle.bayou_log.specs.Inner.Undone.{changes_in, changes_of, AddsUndone, Stack}
use Rattle.bayou_log.specs.Replay.{after_writes}
use Rattle.bayou_log.proofs.Agrees.{applied_few, AgreesWith-more_room, HasRoomForAll-more_room}
use Rattle.bayou_log.proofs.Became.{outcomes_again, outcomes_few}
use Rattle.bayou_log.proofs.CatchingUp.{again, applied_in_order, changes_fit, rest_of, stays, taken_back, undos_reached, AreApplied-again}
use Rattle.bayou_log.proofs.Picked.{AreInside}
use Rattle.bayou_log.proofs.write_log.WriteLog.catch_up.Goals as goal

pub put_in_order-first-requires-clause-distinct : goal.put_in_order-first-requires-clause-distinct
put_in_order-first-requires-clause-distinct c =
    let inside = c.self.inside in
    subst HaveDistinctStamps (sym c.deref.ensures.value) (fitting_distinct_stamps inside.count inside.writes.items c.self.invariant.0.fitting)

pub put_in_order-first-requires-clause-in_order : goal.put_in_order-first-requires-clause-in_order
put_in_order-first-requires-clause-in_order c =
    let inside = c.self.inside in
    let order = inside.order.items in
    subst (λ list. picked list order ≡ in_stamp_order (take (vec_len inside.order) list)) (sym c.deref.ensures.value)
    (applied_in_order inside.writes.items order inside.db inside.undone.undos c.self.invariant.2 ∙ ap (λ n. in_stamp_order (take n inside.writes.items)) (sym inside.order.ok.0))

pub take_back-requires-clause-within : goal.take_back-requires-clause-within
take_back-requires-clause-within c =
    let inside = c.self.inside in
    omega (arith, c.put_in_order-first.ensures.within, inside.order.ok.0, (applied_few inside.writes.items inside.order.items inside.db inside.undone.undos c.self.invariant.2).1)

pub take_back-requires-clause-room : goal.take_back-requires-clause-room
take_back-requires-clause-room c =
    let inside = c.self.inside in
    undos_reached inside.writes.items inside.order.items inside.db inside.vector inside.clock inside.undone.undos c.self.invariant.1 c.self.invariant.2

pub apply_in_turn-requires-clause-room : goal.apply_in_turn-requires-clause-room
apply_in_turn-requires-clause-room c =
    let inside = c.self.inside in
    subst (λ writes. All (λ (held : Write). HasRoomFor (room c.take_back.new.db) held.program) writes) (sym c.deref-2.ensures.value)
    (subst (λ keys. All (λ (held : Write). HasRoomFor keys held.program) inside.writes.items) (sym c.take_back.ensures.room) c.self.invariant.1.room)

pub apply_in_turn-requires-clause-changes : goal.apply_in_turn-requires-clause-changes
apply_in_turn-requires-clause-changes c =
    let inside = c.self.inside in
    let writes = inside.writes.items in
    let order = inside.order.items in
    let n = c.put_in_order-first.result in
    let placed = c.put_in_order-first.new.order.items in
    let among : AreInside writes placed = subst (λ list. AreInside list placed) c.deref.ensures.value c.put_in_order-first.ensures.inside in
    let in_order : picked writes placed ≡ in_stamp_order writes = subst (λ list. picked list placed ≡ in_stamp_order list) c.deref.ensures.value c.put_in_order-first.ensures.in_order in
    let within : n ≤ length order = omega (arith, c.put_in_order-first.ensures.within, inside.order.ok.0) in
    let whole : length placed ≡ length writes = omega (arith, c.put_in_order-first.ensures.whole, c.put_in_order-first.new.order.ok.0, ap {A = List Write} length c.deref.ensures.value) in
    let rest : take (length c.deref-3.result.now - n) (drop n c.deref-3.result.now) ≡ drop n placed = rest_of c.deref-3.result.now placed n c.deref-3.ensures.value in
    let picks : picked c.deref-2.result.now (take (length c.deref-3.result.now - n) (drop n c.deref-3.result.now)) ≡ drop n (in_stamp_order writes) =
    ap (λ list. picked list (take (length c.deref-3.result.now - n) (drop n c.deref-3.result.now))) c.deref-2.ensures.value ∙ ap (picked writes) rest
    ∙ again writes order placed inside.db n 0 inside.undone c.self.invariant.2 among in_order c.put_in_order-first.ensures.front within whole in
    omega (
      arith,
      changes_fit writes order placed inside.db n _ inside.undone c.self.invariant.2 among in_order c.put_in_order-first.ensures.front within whole c.self.invariant.3,
      ap (λ (stack : Stack). changes_in stack.undos) c.take_back.ensures.undone,
      ap (λ (stack : Stack). stack.room) c.take_back.ensures.undone,
      ap changes_of picks,
    )

pub apply_in_turn-requires-clause-outcomes : goal.apply_in_turn-requires-clause-outcomes
apply_in_turn-requires-clause-outcomes c =
    let inside = c.self.inside in
    let writes = inside.writes.items in
    let order = inside.order.items in
    let n = c.put_in_order-first.result in
    let placed = c.put_in_order-first.new.order.items in
    let few = applied_few writes order inside.db inside.undone.undos c.self.invariant.2 in
    let within : n ≤ length order = omega (arith, c.put_in_order-first.ensures.within, inside.order.ok.0) in
    let whole : length placed ≡ length writes = omega (arith, c.put_in_order-first.ensures.whole, c.put_in_order-first.new.order.ok.0, ap {A = List Write} length c.deref.ensures.value) in
    omega (
      arith,
      outcomes_few writes (length order) inside.outcomes.items _ few.0 c.self.invariant.5,
      inside.outcomes.ok.0,
      c.truncate.ensures.len,
      c.truncate.ensures.capacity,
      c.self.invariant.5.room,
      ap length (rest_of c.deref-3.result.now placed n c.deref-3.ensures.value),
      length-drop n placed,
    )

pub invariant_of-self : goal.invariant_of-self
invariant_of-self c =
    let inside = c.self.inside in
    let writes = inside.writes.items in
    let order = inside.order.items in
    let n = c.put_in_order-first.result in
    let placed = c.put_in_order-first.new.order.items in
    let among : AreInside writes placed = subst (λ list. AreInside list placed) c.deref.ensures.value c.put_in_order-first.ensures.inside in
    let in_order : picked writes placed ≡ in_stamp_order writes = subst (λ list. picked list placed ≡ in_stamp_order list) c.deref.ensures.value c.put_in_order-first.ensures.in_order in
    let within : n ≤ length order = omega (arith, c.put_in_order-first.ensures.within, inside.order.ok.0) in
    let whole : length placed ≡ length writes = omega (arith, c.put_in_order-first.ensures.whole, c.put_in_order-first.new.order.ok.0, ap {A = List Write} length c.deref.ensures.value) in
    let rest : take (length c.deref-3.result.now - n) (drop n c.deref-3.result.now) ≡ drop n placed = rest_of c.deref-3.result.now placed n c.deref-3.ensures.value in
    let picks : picked c.deref-2.result.now (take (length c.deref-3.result.now - n) (drop n c.deref-3.result.now)) ≡ drop n (in_stamp_order writes) =
    ap (λ list. picked list (take (length c.deref-3.result.now - n) (drop n c.deref-3.result.now))) c.deref-2.ensures.value ∙ ap (picked writes) rest
    ∙ again writes order placed inside.db n 0 inside.undone c.self.invariant.2 among in_order c.put_in_order-first.ensures.front within whole in
    let after = c.apply_in_turn.ensures.database ∙ ap (λ list. after_writes list (database_of c.take_back.new.db)) picks in
    let adds = subst (λ list. AddsUndone list (database_of c.take_back.new.db) c.take_back.new.undone c.apply_in_turn.new.undone) picks c.apply_in_turn.ensures.undone in
    let applied = AreApplied-again writes order placed inside.db n 0 inside.undone c.self.invariant.2 among in_order c.put_in_order-first.ensures.front within whole
    c.take_back.new.db c.apply_in_turn.new.db c.take_back.new.undone c.apply_in_turn.new.undone c.take_back.ensures.database after c.take_back.ensures.undone adds in
    let same : room c.apply_in_turn.new.db ≡ room inside.db = c.apply_in_turn.ensures.room ∙ c.take_back.ensures.room in
    let promised : c.apply_in_turn.new.undone.promised ≡ inside.undone.promised = ap (λ (stack : Stack). stack.promised) adds.only ∙ ap (λ (stack : Stack). stack.promised) c.take_back.ensures.undone in
    let room_now : c.apply_in_turn.new.undone.room ≡ inside.undone.room = ap (λ (stack : Stack). stack.room) adds.only ∙ ap (λ (stack : Stack). stack.room) c.take_back.ensures.undone in
    let places_now : c.apply_in_turn.new.undone.places ≡ inside.undone.places = ap (λ (stack : Stack). stack.places) adds.only ∙ ap (λ (stack : Stack). stack.places) c.take_back.ensures.undone in (
      c.self.invariant.0,
      AgreesWith-more_room writes writes inside.db c.apply_in_turn.new.db inside.vector inside.clock refl c.self.invariant.1 (λ key had. subst (λ keys. IsTrue (has_room keys key)) (sym same) had),
      subst (λ list. AreApplied list placed c.apply_in_turn.new.db c.apply_in_turn.new.undone.undos) (sym (take_all (length placed) writes (omega (arith, whole)))) applied,
      HasRoomForAll-more_room writes writes _ _ inside.undone c.apply_in_turn.new.undone refl c.self.invariant.3 promised
          (omega (arith, c.put_in_order-first.ensures.capacity), omega (arith, room_now), omega (arith, places_now)),
      c.self.invariant.4,
      subst (λ m. AreOutcomes writes m c.apply_in_turn.new.outcomes.items (vec_capacity c.apply_in_turn.new.outcomes)) (sym whole) (record {
        each = outcomes_again (in_stamp_order writes) (in_stamp_order (take (length order) writes)) n inside.outcomes.items c.truncate.new.self.items c.apply_in_turn.new.outcomes.items
            (database_of c.take_back.new.db) c.self.invariant.5.each
            (stays writes order placed inside.db n 0 inside.undone c.self.invariant.2 among in_order c.put_in_order-first.ensures.front within whole) c.truncate.ensures.items
            (c.take_back.ensures.database ∙ taken_back writes order placed inside.db n 0 inside.undone c.self.invariant.2 among in_order c.put_in_order-first.ensures.front within whole)
            (c.apply_in_turn.ensures.outcomes ∙ ap (λ list. c.truncate.new.self.items ++ outcomes_after list (database_of c.take_back.new.db)) picks)
            ∙ ap (λ list. outcomes_after (in_stamp_order list) empty) (sym (take_all (length writes) writes (omega arith)));
        room = omega (arith, c.self.invariant.5.room, c.apply_in_turn.ensures.capacity, c.truncate.ensures.capacity);
      }),
    )
