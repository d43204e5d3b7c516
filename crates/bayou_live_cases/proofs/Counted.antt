-- Something that takes each Write that it is given, and keeps none.
use Rattle.std.proofs.Common.{◌≡◌, suc, List, [], ◌∷◌, None, length, refl, ap}
use Rattle.bayou_lang.specs.declared.write.Write.{Write}
use Rattle.bayou_peer.specs.Taking.{TakenBy}
use Rattle.bayou_server.specs.declared.answer.Took.{Took}
use Rattle.bayou_server.specs.declared.answer.Took.TheVariants.{New}
use Rattle.bayou_server.specs.TakesAll.{TakesEach, hads, news}

pub all_new : List Write → List Took
all_new [] = []
all_new (write ∷ writes) = New ∷ all_new writes

pub each_new : {S : Type 0} (start : S) (writes : List Write) → TakesEach {S = S} (TakenBy (λ _. None) (λ _ _ _ _. Unit {0})) start writes (all_new writes) start
unfolding all_new
each_new start [] = refl
each_new start (write ∷ writes) = (start, (tt, tt), each_new start writes)

pub all_counted : (writes : List Write) → length writes ≡ news (all_new writes)
unfolding all_new
all_counted [] = refl
all_counted (write ∷ writes) = ap suc (all_counted writes)

pub none_had : (writes : List Write) → 0 ≡ hads (all_new writes)
unfolding all_new
none_had [] = refl
none_had (write ∷ writes) = none_had writes
