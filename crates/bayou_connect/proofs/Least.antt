-- The least number of servers of which some are these.
use Rattle.std.proofs.Common.{arith, ◌≡◌, ℕ, ◌+◌, ◌<◌, All, List, [], ◌∷◌, get_or, length, max, subst, take}
use Rattle.std.proofs.lemmas.List.{get_or-take, length-take, take-take}
use Rattle.std.proofs.lemmas.List.Elements.{All-head, All-more, All-take, All-weaker}
use Rattle.bayou_connect.specs.Plans.{IsLeast}
use Rattle.bayou_connect.specs.declared.plan.ServerPlace.{ServerPlace}

abbrev IsBelow : ℕ → ServerPlace → Type 0
IsBelow count place = place.id.index < count

-- one server more
pub least_more : (least new at : ℕ) (places : List ServerPlace) (d : ServerPlace) → at < length places → IsLeast least (take at places) → new ≡ max least ((get_or places at d).id.index + 1)
    → IsLeast new (take (at + 1) places)
least_more least new at places d within so_far is = record {
  enough = All-more (IsBelow new) places at d within
      (All-weaker (IsBelow least) (IsBelow new) (λ place below. omega (arith, below, is)) (take at places) so_far.enough) (omega (arith, is));
  least = λ other all.
      let front : All (IsBelow other) (take at places) = subst (All (IsBelow other)) (take-take at (at + 1) places (omega arith)) (All-take (IsBelow other) at (take (at + 1) places) all) in
      let here : (get_or places at d).id.index < other =
      subst (IsBelow other) (get_or-take (at + 1) places at d (omega arith)) (all at d (omega (arith, length-take (at + 1) places, within))) in
      omega (arith, is, so_far.least other front, here);
}

-- where there is a server below a number, that is above 0
pub some_below : (count : ℕ) (places : List ServerPlace) → 0 < length places → All (IsBelow count) places → 0 < count
some_below count [] some all = absurd (omega (arith, some))
some_below count (place ∷ places) some all = omega (arith, All-head (IsBelow count) place places all)
