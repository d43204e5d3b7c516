use Rattle.std.proofs.Common.{◌≡◌, ◌⊎◌, inl, inr, ◌+◌, [], List, length, ◌∙◌, subst}
use Rattle.std.specs.Vec.Iter.{into_iter_items}
use Rattle.bayou_lang.specs.declared.write.Write.{Write}
use Rattle.bayou_peer.proofs.Listing.{all_listed, none_left}
use Rattle.bayou_server.specs.TakesAll.{TakesAll, TakesAt}
use Rattle.bayou_peer.proofs.lent.ServerReplica.take_all.Goals as goal

pub returns : goal.returns
returns g c =
    let old = c.args.self.now in
    let new = c.take_next.new.self in
    let told = c.take_next.result in
    let left = into_iter_items c.take_next.new.writes in
    let all = subst (λ (given : List Write). TakesAll (TakesAt g.D.Device) old given left told new) c.into_iter.ensures.rest c.take_next.ensures.takes in
    record {
      took = (
        left,
        all_listed g.D.Device old new c.args.writes.items left told all,
        λ none. none_left (TakesAt g.D.Device) old new c.args.writes.items left told all none (elim (c.take_next.ensures.whole none) as (λ _. (left ≡ []) ⊎ (told.taken + told.had ≡ length c.args.writes.items)) [
          | inl nothing ↦ inl nothing
          | inr whole ↦ inr (whole ∙ c.len-count.ensures ∙ c.args.writes.ok.0)
        ]),
      );
    }
