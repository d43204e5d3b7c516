use Rattle.std.proofs.Common.{◌≡◌, ◌≢◌, ℕ, ◌++◌, ◌∷◌, [], ◌<◌, ◌≤◌, length, vec_capacity, sym, ◌∙◌, ap, subst, arith, length-append}
use Rattle.bayou_base.specs.declared.wid.Wid.{Wid}
use Rattle.bayou_lang.specs.Changes.{most_changes}
use Rattle.bayou_lang.specs.Laws.Fitting.{fitting-front}
use Rattle.bayou_lang.specs.Writes.{AreFitting, count_of, greatest_clock}
use Rattle.bayou_log.specs.Inner.Fields.{AgreesWith, AreApplied, AreKept, AreOutcomes, HasRoomForAll}
use Rattle.bayou_log.specs.Inner.Index.{places_of, AreIndexed}
use Rattle.bayou_log.specs.Inner.Undone.{Stack}
use Rattle.bayou_log.specs.Log.{Log}
use Rattle.std.proofs.Common.{take}
use Rattle.bayou_log.proofs.TakenBack.{AgreesWith-back, AreApplied-back, AreIndexed-back, AreKept-back, AreOutcomes-back, HasRoomForAll-back, has_place, promised_by_all}
use Rattle.bayou_log.proofs.write_log.WriteLog.take_back.Goals as goal

pub take_back-requires : goal.take_back-requires
take_back-requires c =
    let inside = c.self.inside in
    subst (λ (wid : Wid). 0 < length (places_of inside.own.rows wid.origin.index)) (sym c.wid.ensures)
    (has_place inside.own.rows c.pop.new.self.items c.in-Some.write (subst (AreIndexed inside.own.rows) c.in-Some.ensures.items c.self.invariant.4))

pub release-requires : goal.release-requires
release-requires c =
    let inside = c.self.inside in
    let most : c.most_changes.result ≡ most_changes c.in-Some.write.program = c.most_changes.ensures.value ∙ ap most_changes c.program.ensures in
    omega (
      arith,
      most,
      promised_by_all c.pop.new.self.items c.in-Some.write (vec_capacity inside.order) inside.undone
          (subst (λ list. HasRoomForAll list (vec_capacity inside.order) inside.undone) c.in-Some.ensures.items c.self.invariant.3),
    )

pub counts_and_clock-requires : goal.counts_and_clock-requires
counts_and_clock-requires c =
    let inside = c.self.inside in
    subst (AreFitting inside.count) (sym c.deref.ensures.value)
    (fitting-front inside.count c.pop.new.self.items (c.in-Some.write ∷ []) (subst (AreFitting inside.count) c.in-Some.ensures.items c.self.invariant.0.fitting))

pub invariant_of-self : goal.invariant_of-self
invariant_of-self c =
    let inside = c.self.inside in
    let write = c.in-Some.write in
    let new = c.pop.new.self.items in
    let all : inside.writes.items ≡ new ++ write ∷ [] = c.in-Some.ensures.items in
    let order = inside.order.items in
    let most : c.most_changes.result ≡ most_changes write.program = c.most_changes.ensures.value ∙ ap most_changes c.program.ensures in
    let waits = subst (λ (log : Log). 0 < log.waiting) (sym c.self.view_is) c.requires in
    let within : length order ≤ length new = omega (arith, waits, inside.order.ok.0, inside.writes.ok.0, ap length all, length-append new (write ∷ [])) in
    let fitting = fitting-front inside.count new (write ∷ []) (subst (AreFitting inside.count) all c.self.invariant.0.fitting) in
    let others : (server : ℕ) → server ≢ write.wid.origin.index → places_of c.take_back.new.self.rows server ≡ places_of inside.own.rows server =
    subst (λ (wid : Wid). (server : ℕ) → server ≢ wid.origin.index → places_of c.take_back.new.self.rows server ≡ places_of inside.own.rows server) c.wid.ensures c.take_back.ensures.others in
    let own = subst (λ (wid : Wid). (last : ℕ) × (places_of inside.own.rows wid.origin.index ≡ places_of c.take_back.new.self.rows wid.origin.index ++ last ∷ [])) c.wid.ensures c.take_back.ensures.own in (
      AreKept-back inside.count inside.limit new write (subst (AreKept inside.count inside.limit) all c.self.invariant.0),
      AgreesWith-back new inside.db inside.vector c.counts_and_clock.result.0 inside.clock c.counts_and_clock.result.1 write
          (subst (λ list. AgreesWith list inside.db inside.vector inside.clock) all c.self.invariant.1)
          (c.counts_and_clock.ensures.0 ∙ ap count_of c.deref.ensures.value) (c.counts_and_clock.ensures.1 ∙ ap greatest_clock c.deref.ensures.value),
      subst (λ undos. AreApplied (take (length order) new) order inside.db undos) (sym (ap (λ (stack : Stack). stack.undos) c.release.ensures))
          (AreApplied-back new write order inside.db inside.undone.undos within (subst (λ list. AreApplied (take (length order) list) order inside.db inside.undone.undos) all c.self.invariant.2)),
      HasRoomForAll-back new write (vec_capacity inside.order) c.most_changes.result inside.undone c.release.new.self
          (subst (λ list. HasRoomForAll list (vec_capacity inside.order) inside.undone) all c.self.invariant.3) most c.release.ensures,
      AreIndexed-back inside.count inside.own.rows c.take_back.new.self.rows new write own.0 fitting (subst (AreIndexed inside.own.rows) all c.self.invariant.4) own.1 others,
      AreOutcomes-back new write (length order) inside.outcomes.items (vec_capacity inside.outcomes) within
          (subst (λ list. AreOutcomes list (length order) inside.outcomes.items (vec_capacity inside.outcomes)) all c.self.invariant.5),
    )
