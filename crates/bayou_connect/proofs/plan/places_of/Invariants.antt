-- one server for each word so far, as it says, and none twice
use Rattle.std.proofs.Common.{◌≡◌, ◌≢◌, AllPairs, length, take}
use Rattle.std.specs.List.{AllZip}
use Rattle.bayou_connect.specs.Plans.{SaysPlace}
use Rattle.bayou_connect.specs.declared.plan.ServerPlace.{ServerPlace}
use Rattle.bayou_connect.proofs.plan.places_of.Given as goal

abbrev pub invariant-loop-word : goal.invariant-loop-word
invariant-loop-word l = record {
  said : AllZip (λ word place. SaysPlace word.now place) (take l.word-index l.words) l.places.items;
  once : AllPairs (λ (one other : ServerPlace). one.id ≢ other.id) l.places.items;
  number : length l.places.items ≡ l.word-index;
}
