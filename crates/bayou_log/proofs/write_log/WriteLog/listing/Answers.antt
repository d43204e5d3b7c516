use Rattle.std.proofs.Common.{◌≡◌, ◌-◌, ℕ, List, IfOk, length, ◌∙◌, ap, subst, arith, take, vec_len}
use Rattle.bayou_lang.specs.declared.eval.Outcome.{Outcome}
use Rattle.bayou_lang.specs.Database.{empty}
use Rattle.bayou_lang.specs.Writes.{in_stamp_order}
use Rattle.bayou_log.specs.Inner.Beside.{listed_with}
use Rattle.bayou_log.specs.Inner.Fields.{picked}
use Rattle.bayou_log.specs.Listing.{listing_of}
use Rattle.bayou_log.specs.Log.{applied}
use Rattle.bayou_log.proofs.Agrees.{applied_few}
use Rattle.bayou_log.proofs.Became.{listed_with-is, outcomes_few}
use Rattle.bayou_log.proofs.CatchingUp.{applied_in_order}
use Rattle.bayou_log.proofs.write_log.WriteLog.listing.Goals as goal

pub listed_in_turn-requires-clause-as_many : goal.listed_in_turn-requires-clause-as_many
listed_in_turn-requires-clause-as_many c =
    let inside = c.self.inside in
    let few = applied_few inside.writes.items inside.order.items inside.db inside.undone.undos c.self.invariant.2 in
    omega (
      arith,
      outcomes_few inside.writes.items (length inside.order.items) inside.outcomes.items _ few.0 c.self.invariant.5,
      ap {A = List Outcome} length c.deref-3.ensures.value,
      ap {A = List ℕ} length c.deref-2.ensures.value,
    )

pub returns : goal.returns
returns c =
    let inside = c.self.inside in
    let writes = inside.writes.items in
    let order = inside.order.items in
    let first = in_stamp_order (take (length order) writes) in
    let few = applied_few writes order inside.db inside.undone.undos c.self.invariant.2 in
    let number : length order ≡ length writes - (vec_len inside.writes - vec_len inside.order) = omega (arith, few.0, inside.writes.ok.0, inside.order.ok.0) in
    let turn : listed_with (picked c.deref.result.now c.deref-2.result.now) c.deref-3.result.now ≡ listing_of (take (length writes - (vec_len inside.writes - vec_len inside.order)) writes) =
    ap (λ list. listed_with (picked list c.deref-2.result.now) c.deref-3.result.now) c.deref.ensures.value
    ∙ ap (λ list. listed_with (picked writes list) c.deref-3.result.now) c.deref-2.ensures.value
    ∙ ap (listed_with (picked writes order)) c.deref-3.ensures.value
    ∙ ap (λ list. listed_with list inside.outcomes.items) (applied_in_order writes order inside.db inside.undone.undos c.self.invariant.2)
    ∙ ap (listed_with first) c.self.invariant.5.each
    ∙ listed_with-is first empty
    ∙ ap (λ n. listing_of (take n writes)) number in
    subst (λ log. IfOk c.listed_in_turn.result (λ list. list.items ≡ listing_of (applied log))) c.self.view_is
    (subst (λ target. IfOk c.listed_in_turn.result (λ list. list.items ≡ target)) turn c.listed_in_turn.ensures)
