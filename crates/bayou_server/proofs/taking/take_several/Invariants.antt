-- each of those given so far was taken, and is counted
use Rattle.std.proofs.Common.{◌≡◌, ◌+◌, ◌-◌, ◌≤◌, ◌++◌, List, None}
use Rattle.std.specs.Vec.Iter.{into_iter_items}
use Rattle.bayou_lang.specs.declared.write.Write.{Write}
use Rattle.bayou_server.specs.Inner.Fields.{BelongTogether, server_of}
use Rattle.bayou_server.specs.TakesAll.{TakesAt, TakesEach, hads, news}
use Rattle.bayou_server.specs.declared.answer.Took.{Took}
use Rattle.bayou_server.proofs.taking.take_several.Given as goal

abbrev pub invariant-loop-told : goal.invariant-loop-told
invariant-loop-told g l = record {
  took : (front : List Write) × (tooks : List Took) × (into_iter_items l.initial.writes ≡ front ++ into_iter_items l.writes)
      × TakesEach (TakesAt g.D.Device) (server_of l.initial.journal l.initial.holding l.id.index) front tooks (server_of l.journal l.holding l.id.index)
      × (l.told.taken ≡ news tooks) × (l.told.had ≡ hads tooks);
  none : l.told.refused ≡ None;
  together : BelongTogether l.journal l.holding l.id.index;
  few : l.told.taken + l.told.had ≤ l.most;
}

abbrev pub decreases-loop-told : goal.decreases-loop-told
decreases-loop-told g l = l.most - (l.told.taken + l.told.had)
