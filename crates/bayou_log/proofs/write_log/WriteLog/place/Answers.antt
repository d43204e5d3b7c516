use Rattle.std.proofs.Common.{◌≡◌, ◌≢◌, ℕ, ◌+◌, ◌++◌, ◌∷◌, [], ◌<◌, length, max, vec_capacity, sym, ◌∙◌, ap, subst, arith}
use Rattle.bayou_base.specs.declared.stamp.Stamp.{Stamp}
use Rattle.bayou_base.specs.declared.wid.Wid.{Wid}
use Rattle.bayou_base.specs.Vector.{raised}
use Rattle.bayou_lang.specs.Changes.{most_changes}
use Rattle.bayou_lang.specs.Writes.{Fits}
use Rattle.bayou_log.specs.Log.{IsReserved}
use Rattle.bayou_log.specs.Inner.Fields.{HasRoomForAll}
use Rattle.bayou_log.specs.Inner.Undone.{Stack}
use Rattle.bayou_log.specs.Inner.Index.{places_of, AreIndexed}
use Rattle.bayou_log.proofs.Became.{AreOutcomes-now}
use Rattle.bayou_log.proofs.Agrees.{applied_few, AgreesWith-push, AgreesWith-same, AreApplied-now, AreKept-push, HasRoomForAll-push}
use Rattle.bayou_log.proofs.Indexed.{AreIndexed-push}
use Rattle.bayou_log.proofs.write_log.WriteLog.place.Goals as goal

pub invariant_of-self : goal.invariant_of-self
invariant_of-self c =
    let inside = c.self.inside in
    let writes = inside.writes.items in
    let write = c.args.write in
    let fits = subst (λ log. Fits log.count log.receipts write) (sym c.self.view_is) c.requires.fits in
    let reserved = subst (λ log. IsReserved log.room write) (sym c.self.view_is) c.requires.reserved in
    let most : c.most_changes.result ≡ most_changes write.program = c.most_changes.ensures.value ∙ ap most_changes c.program.ensures in
    let kept = AreKept-push inside.count inside.limit writes c.push_reserved.new.self.items write c.push_reserved.ensures.items c.self.invariant.0 fits
    (subst (λ log. length log.receipts < log.limit) (sym c.self.view_is) c.requires.below_limit) in
    let agrees = AgreesWith-push inside.count writes inside.db inside.vector inside.clock write c.self.invariant.1 fits reserved.1 in
    let has = HasRoomForAll-push writes write _ c.most_changes.result inside.undone c.promise.new.self c.self.invariant.3 most c.promise.ensures
    (omega (arith, most, reserved.2, c.self.invariant.3.room)) (omega (arith, reserved.0, inside.writes.ok.0), omega (arith, reserved.0, inside.writes.ok.0)) in
    let others : (server : ℕ) → server ≢ write.wid.origin.index → places_of c.add.new.self.rows server ≡ places_of inside.own.rows server =
    subst (λ (wid : Wid). (server : ℕ) → server ≢ wid.origin.index → places_of c.add.new.self.rows server ≡ places_of inside.own.rows server) c.wid.ensures c.add.ensures.others in
    let own : places_of c.add.new.self.rows write.wid.origin.index ≡ places_of inside.own.rows write.wid.origin.index ++ length writes ∷ [] =
    subst (λ (wid : Wid). places_of c.add.new.self.rows wid.origin.index ≡ places_of inside.own.rows wid.origin.index ++ length writes ∷ []) c.wid.ensures
    (c.add.ensures.own ∙ ap (λ place. places_of inside.own.rows c.wid.result.origin.index ++ place ∷ []) (c.len.ensures ∙ inside.writes.ok.0)) in
    let indexed = AreIndexed-push inside.count inside.own.rows c.add.new.self.rows writes write c.self.invariant.0.fitting fits c.self.invariant.4 own others in (
      kept,
      AgreesWith-same (writes ++ write ∷ []) c.push_reserved.new.self.items inside.db (raised inside.vector write.wid) c.raise.new.self (max inside.clock write.stamp.clock) c.max-self-inside.result
          c.push_reserved.ensures.items (c.raise.ensures ∙ ap (raised inside.vector) c.wid-2.ensures) (c.max-self-inside.ensures ∙ ap (λ (stamp : Stamp). max inside.clock stamp.clock) c.stamp.ensures) agrees,
      AreApplied-now writes c.push_reserved.new.self.items write inside.order.items inside.db inside.undone.undos c.promise.new.self.undos c.push_reserved.ensures.items
          (ap (λ (stack : Stack). stack.undos) c.promise.ensures) c.self.invariant.2,
      subst (λ list. HasRoomForAll list (vec_capacity inside.order) c.promise.new.self) (sym c.push_reserved.ensures.items) has,
      subst (AreIndexed c.add.new.self.rows) (sym c.push_reserved.ensures.items) indexed,
      AreOutcomes-now writes c.push_reserved.new.self.items write (length inside.order.items) inside.outcomes.items (vec_capacity inside.outcomes) c.push_reserved.ensures.items
          (applied_few writes inside.order.items inside.db inside.undone.undos c.self.invariant.2).0 (omega (arith, reserved.0, inside.writes.ok.0)) c.self.invariant.5,
    )

pub add-requires-clause-seq : goal.add-requires-clause-seq
add-requires-clause-seq c =
    let fits = subst (λ log. Fits log.count log.receipts c.args.write) (sym c.self.view_is) c.requires.fits in
    let next : c.args.write.wid.seq ≡ length (places_of c.self.inside.own.rows c.args.write.wid.origin.index) + 1 =
    omega (arith, fits.0.next, c.self.invariant.4.counts c.args.write.wid.origin.index) in
    subst (λ (wid : Wid). wid.seq ≡ length (places_of c.self.inside.own.rows wid.origin.index) + 1) (sym c.wid.ensures) next
