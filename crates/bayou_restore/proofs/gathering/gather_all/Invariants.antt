-- each of those that came so far was kept or there, and is counted
use Rattle.std.proofs.Common.{◌≡◌, ◌+◌, ◌++◌, List, None, length}
use Rattle.std.specs.Vec.Iter.{into_iter_items}
use Rattle.bayou_lang.specs.declared.write.Write.{Write}
use Rattle.bayou_restore.specs.Gathering.{Gathers, gathering_of}
use Rattle.bayou_server.specs.TakesAll.{TakesEach, hads, news}
use Rattle.bayou_server.specs.declared.answer.Took.{Took}
use Rattle.bayou_restore.proofs.gathering.gather_all.Given as goal

abbrev pub invariant-loop-write : goal.invariant-loop-write
invariant-loop-write l = record {
  took : (front : List Write) × (tooks : List Took) × (into_iter_items l.initial.writes ≡ front ++ into_iter_items l.writes)
      × TakesEach Gathers (gathering_of l.initial.log) front tooks (gathering_of l.log)
      × (l.told.taken ≡ news tooks) × (l.told.had ≡ hads tooks);
  none : l.told.refused ≡ None;
  few : (l.told.taken + l.told.had) + length (into_iter_items l.writes) ≡ length (into_iter_items l.initial.writes);
}

abbrev pub decreases-loop-write : goal.decreases-loop-write
decreases-loop-write l = length (into_iter_items l.writes)
