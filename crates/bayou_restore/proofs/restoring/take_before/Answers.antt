use Rattle.std.proofs.Common.{◌≡◌, ◌+◌, ◌⊎◌, ◌∙◌, inl, inr, List, [], ℕ, Err, length, subst, sym}
use Rattle.std.specs.Vec.Iter.{into_iter_items}
use Rattle.bayou_base.specs.Vector.{AreCounts}
use Rattle.bayou_lang.specs.declared.write.Write.{Write}
use Rattle.bayou_restore.specs.Inner.Counting.{AreAllDue}
use Rattle.bayou_restore.specs.Inner.Steps.{TakesBefore}
use Rattle.bayou_restore.specs.declared.fault.RestoreFault.{RestoreFault}
use Rattle.bayou_restore.proofs.Taking.{none_left, taken_all, taken_some}
use Rattle.bayou_server.specs.TakesAll.{TakesAll, TakesAt}
use Rattle.bayou_restore.proofs.restoring.take_before.Goals as goal

pub returns-in-None : goal.returns-in-None
returns-in-None g c =
    let old = c.args.server.now in
    let new = c.take_next-told.new.self in
    let own = c.args.own.now in
    let writes = c.args.gathered.now.writes in
    let due = c.in_ok-due.due.items in
    let told = c.take_next-told.result in
    let left = into_iter_items c.take_next-told.new.writes in
    let are_due = subst (λ (t : List ℕ). AreAllDue own.deps writes t due) c.vector.ensures (subst (λ (t : List ℕ). AreAllDue t writes c.vector.result due) c.deps-2.ensures c.in_ok-due.ensures.due) in
    let all = subst (λ (given : List Write). TakesAll (TakesAt g.D.Device) old given left told new) c.into_iter.ensures.rest c.take_next-told.ensures.takes in
    let nothing = none_left (TakesAt g.D.Device) old new due left told all c.in-None.is (elim (c.take_next-told.ensures.whole c.in-None.is) as (λ _. (left ≡ []) ⊎ (told.taken + told.had ≡ length due)) [
      | inl nothing ↦ inl nothing
      | inr whole ↦ inr (whole ∙ c.len-number.ensures ∙ c.in_ok-due.due.ok.0)
    ]) in
    let whole = subst (λ (l : List Write). TakesAll (TakesAt g.D.Device) old due l told new) nothing all in
    let each = subst AreCounts (c.counts-each.ensures.value ∙ c.deps.ensures) c.counts-each.ensures.valid in
    let (takes, same, stored) = taken_all g.D.Device c.args.gathered.now old own due c.requires are_due new told each.one_each whole c.in-None.is in
    record { same = same; takes = takes; stored = stored }

pub returns-in-Some : goal.returns-in-Some
returns-in-Some g c =
    let old = c.args.server.now in
    let new = c.take_next-told.new.self in
    let own = c.args.own.now in
    let writes = c.args.gathered.now.writes in
    let due = c.in_ok-due.due.items in
    let told = c.take_next-told.result in
    let left = into_iter_items c.take_next-told.new.writes in
    let are_due = subst (λ (t : List ℕ). AreAllDue own.deps writes t due) c.vector.ensures (subst (λ (t : List ℕ). AreAllDue t writes c.vector.result due) c.deps-2.ensures c.in_ok-due.ensures.due) in
    let all = subst (λ (given : List Write). TakesAll (TakesAt g.D.Device) old given left told new) c.into_iter.ensures.rest c.take_next-told.ensures.takes in
    let (takes, same) = taken_some g.D.Device c.args.gathered.now old own due c.requires are_due new left told c.in-Some.refused c.wid.result.seq all c.in-Some.is in
    record {
      same = same;
      takes = subst (λ (fault : RestoreFault). TakesBefore c.args.gathered.now old.core own (Err fault) new.core) (sym c.untaken.ensures) takes;
      stored = λ modelled. tt;
    }
