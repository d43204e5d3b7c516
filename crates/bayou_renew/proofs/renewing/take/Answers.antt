use Rattle.std.proofs.Common.{◌≡◌, ◌+◌, ◌⊎◌, ◌∙◌, inl, inr, List, [], arith, length, subst, sym}
use Rattle.std.specs.Vec.Iter.{into_iter_items}
use Rattle.bayou_lang.specs.declared.write.Write.{Write}
use Rattle.bayou_renew.specs.Inner.{HoldsThem}
use Rattle.bayou_renew.specs.Renewal.{AreMadeOf}
use Rattle.bayou_server.specs.TakesAll.{TakesAll, TakesAt}
use Rattle.bayou_renew.proofs.Holding.{holds_all, stores_all}
use Rattle.bayou_renew.proofs.renewing.take.Goals as goal

pub returns-in-None-clause-held : goal.returns-in-None-clause-held
returns-in-None-clause-held g c =
    let old = c.args.server.now in
    let new = c.take_next-told.new.self in
    let given = c.in_ok-writes.writes.items in
    let told = c.take_next-told.result in
    let left = into_iter_items c.take_next-told.new.writes in
    let all = subst (λ (l : List Write). TakesAll (TakesAt g.N.Device) old l left told new) c.into_iter.ensures.rest c.take_next-told.ensures.takes in
    let whole : (left ≡ []) ⊎ (told.taken + told.had ≡ length given) = elim (c.take_next-told.ensures.whole c.in-None.is) as (λ _. (left ≡ []) ⊎ (told.taken + told.had ≡ length given)) [
      | inl nothing ↦ inl nothing
      | inr whole ↦ inr (omega (arith, whole, c.in-Ok.ensures, c.len.ensures, c.in_ok-writes.writes.ok.0))
    ] in
    let same : given ≡ c.args.log.now.receipts = c.in_ok-writes.ensures ∙ c.receipts.ensures.value in
    let made = subst (λ (l : List Write). AreMadeOf [] c.args.rows.now l) (sym same) c.requires.made in
    subst (λ (l : List Write). HoldsThem old.core l new.core) same (holds_all g.N.Device old new c.args.rows.now given left told c.requires.empty made all c.in-None.is whole)

pub returns-in-None-clause-stored : goal.returns-in-None-clause-stored
returns-in-None-clause-stored g c =
    let old = c.args.server.now in
    let new = c.take_next-told.new.self in
    let given = c.in_ok-writes.writes.items in
    let told = c.take_next-told.result in
    let left = into_iter_items c.take_next-told.new.writes in
    let all = subst (λ (l : List Write). TakesAll (TakesAt g.N.Device) old l left told new) c.into_iter.ensures.rest c.take_next-told.ensures.takes in
    let whole : (left ≡ []) ⊎ (told.taken + told.had ≡ length given) = elim (c.take_next-told.ensures.whole c.in-None.is) as (λ _. (left ≡ []) ⊎ (told.taken + told.had ≡ length given)) [
      | inl nothing ↦ inl nothing
      | inr whole ↦ inr (omega (arith, whole, c.in-Ok.ensures, c.len.ensures, c.in_ok-writes.writes.ok.0))
    ] in
    let same : given ≡ c.args.log.now.receipts = c.in_ok-writes.ensures ∙ c.receipts.ensures.value in
    let made = subst (λ (l : List Write). AreMadeOf [] c.args.rows.now l) (sym same) c.requires.made in
    stores_all g.N.Device old new c.args.rows.now given left told c.requires.empty made all c.in-None.is whole
