use Rattle.std.proofs.Common.{List, subst}
use Rattle.std.specs.Vec.Iter.{into_iter_items}
use Rattle.bayou_lang.specs.declared.write.Write.{Write}
use Rattle.bayou_restore.specs.Gathering.{Gathering, Gathers, gathering_of}
use Rattle.bayou_restore.proofs.Listing.{Listed, all_listed}
use Rattle.bayou_server.specs.TakesAll.{TakesAll}
use Rattle.bayou_restore.proofs.gathering.GatheredReplica.take_all.Goals as goal

pub returns : goal.returns
returns c =
    let old = gathering_of c.self.inside.log in
    let new = gathering_of c.gather_all.new.log in
    let told = c.gather_all.result in
    let left = into_iter_items c.gather_all.new.writes in
    let all = subst (λ (given : List Write). TakesAll Gathers old given left told new) c.into_iter.ensures.rest c.gather_all.ensures.gathers in
    let listed : TakesAll Listed old c.args.writes.items left told new = all_listed old new c.args.writes.items left told all in
    record {
      took = (left, subst (λ (g : Gathering). TakesAll Listed g c.args.writes.items left told new) c.self.view_is listed, c.gather_all.ensures.whole);
    }
