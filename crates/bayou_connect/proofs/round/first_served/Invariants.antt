-- what the servers after these tell is what all of them do
use Rattle.std.proofs.Common.{drop}
use Rattle.bayou_connect.specs.Round.{AsksInTurn}
use Rattle.bayou_connect.specs.declared.told.ServerTold.{ServerTold}
use Rattle.bayou_connect.specs.declared.told.ServerTold.TheVariants.{Away}
use Rattle.bayou_connect.proofs.round.first_served.Given as goal

abbrev pub invariant-loop-at : goal.invariant-loop-at
invariant-loop-at g l = (new : _) (told : ServerTold) → AsksInTurn (g.W.Ways.asks l.what) l.is_read (drop l.at-index l.order) l.last l.ways new told
    → AsksInTurn (g.W.Ways.asks l.what) l.is_read l.order Away l.fn.ways new told
