use Rattle.std.proofs.Common.{refl, Some, subst}
use Rattle.bayou_judge.specs.Inner.Index.{IsPlaceOf}
use Rattle.bayou_judge.proofs.Good.{place_within}
use Rattle.bayou_judge.proofs.demand.demand_in.Goals as goal

pub returns-in-Some : goal.returns-in-Some
returns-in-Some c count writes indexed fitting =
    let found : IsPlaceOf writes c.args.wid (Some c.in-Some.place) = subst (IsPlaceOf writes c.args.wid) c.in-Some.is (c.place_of.ensures count writes indexed fitting) in
    (c.in-Some.place, found.0, found.1, found.2, c.counts_to.ensures writes indexed (place_within writes c.in-Some.place found.0 found.1), refl)
