-- What is gathered tells its list.
use Rattle.std.proofs.Common.{List, [], ◌∷◌, Option, None, Some, Result, Ok, Err, ap}
use Rattle.bayou_lang.specs.declared.write.Write.{Write}
use Rattle.bayou_peer.specs.Taking.{ListsTaken, TakenBy}
use Rattle.bayou_restore.specs.Gathering.{Gathering, Gathers}
use Rattle.bayou_server.specs.TakesAll.{TakesAll, TakesEach, TakingEnds}
use Rattle.bayou_server.specs.declared.answer.Took.{Took}
use Rattle.bayou_server.specs.declared.answer.Took.TheVariants.{New, Had}
use Rattle.bayou_server.specs.declared.answer.RefusedWrite.{RefusedWrite}
use Rattle.bayou_server.specs.declared.answer.TookAll.{TookAll}
use Rattle.bayou_server.specs.declared.fault.TakeFault.{TakeFault}
use Rattle.bayou_server.specs.declared.fault.TakeFault.TheVariants.{Conflict, Down, OwnLost, Gap, BadStamp, LogFull, OutOfMemory, Journal}

-- what there is after a Write came
pub lists_gathered : (old : Gathering) (given : Write) (answer : Result Took TakeFault) (new : Gathering) → Gathers old given answer new → ListsTaken old.writes given answer new.writes
lists_gathered old given (Ok New) new gathers = (gathers.0.missing, ap (λ (g : Gathering). g.writes) gathers.2)
lists_gathered old given (Ok Had) new gathers = (gathers.0, ap (λ (g : Gathering). g.writes) gathers.1)
lists_gathered old given (Err Conflict) new gathers = ap (λ (g : Gathering). g.writes) gathers.1
lists_gathered old given (Err Down) new gathers = absurd gathers
lists_gathered old given (Err OwnLost) new gathers = absurd gathers
lists_gathered old given (Err Gap) new gathers = ap (λ (g : Gathering). g.writes) gathers.2
lists_gathered old given (Err BadStamp) new gathers = ap (λ (g : Gathering). g.writes) gathers.3
lists_gathered old given (Err LogFull) new gathers = ap (λ (g : Gathering). g.writes) gathers.2
lists_gathered old given (Err OutOfMemory) new gathers = ap (λ (g : Gathering). g.writes) gathers.2
lists_gathered old given (Err Journal) new gathers = absurd gathers

abbrev pub Listed : Gathering → Write → Result Took TakeFault → Gathering → Type 0
Listed = TakenBy (λ gathering. Some gathering.writes) Gathers

each_listed : (old new : Gathering) (writes : List Write) (tooks : List Took) → TakesEach Gathers old writes tooks new → TakesEach Listed old writes tooks new
each_listed old new [] [] same = same
each_listed old new [] (took ∷ tooks) none = absurd none
each_listed old new (write ∷ writes) [] none = absurd none
each_listed old new (write ∷ writes) (took ∷ tooks) each =
    (each.0, (each.1, lists_gathered old write (Ok took) each.0 each.1), each_listed each.0 new writes tooks each.2)

end_listed : (mid new : Gathering) (given front left : List Write) (refused : Option RefusedWrite) → TakingEnds Gathers mid given front left refused new → TakingEnds Listed mid given front left refused new
end_listed mid new given front left None ends = ends
end_listed mid new given front left (Some refused) ends = (ends.0, ends.1, (ends.2, lists_gathered mid ends.0 (Err refused.fault) new ends.2), ends.3)

pub all_listed : (old new : Gathering) (given left : List Write) (told : TookAll) → TakesAll Gathers old given left told new → TakesAll Listed old given left told new
all_listed old new given left told all = record {
  front = all.front;
  tooks = all.tooks;
  mid = all.mid;
  each = each_listed old all.mid all.front all.tooks all.each;
  taken = all.taken;
  had = all.had;
  ends = end_listed all.mid new given all.front left told.refused all.ends;
}
