use Rattle.std.proofs.Common.{◌≡◌, ◌+◌, ◌⊎◌, ◌∙◌, inl, inr, List, [], arith, length, subst}
use Rattle.std.specs.Vec.Iter.{into_iter_items}
use Rattle.bayou_lang.specs.declared.write.Write.{Write}
use Rattle.bayou_serve.specs.Remade.{TakesAllOf}
use Rattle.bayou_server.specs.TakesAll.{TakesAll, TakesAt}
use Rattle.bayou_serve.proofs.Taken.{all_are_taken}
use Rattle.bayou_serve.proofs.remaking.take_all_of.Goals as goal

pub returns-in-None-clause-taken : goal.returns-in-None-clause-taken
returns-in-None-clause-taken g c =
    let old = c.args.server.now in
    let new = c.take_next-told.new.self in
    let given = c.in_ok-writes.writes.items in
    let told = c.take_next-told.result in
    let left = into_iter_items c.take_next-told.new.writes in
    let all = subst (λ (l : List Write). TakesAll (TakesAt g.D.Device) old l left told new) c.into_iter.ensures.rest c.take_next-told.ensures.takes in
    let whole : (left ≡ []) ⊎ (told.taken + told.had ≡ length given) = elim (c.take_next-told.ensures.whole c.in-None.is) as (λ _. (left ≡ []) ⊎ (told.taken + told.had ≡ length given)) [
      | inl nothing ↦ inl nothing
      | inr whole ↦ inr (omega (arith, whole, c.in-Ok.ensures, c.len.ensures, c.in_ok-writes.writes.ok.0))
    ] in
    let taken = all_are_taken g.D.Device old new given left told all c.in-None.is whole in
    subst (λ (l : List Write). TakesAllOf old.core l new.core) (c.in_ok-writes.ensures ∙ c.writes.ensures.value) taken
