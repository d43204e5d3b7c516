-- what the rounds that are left tell is what all of them do
use Rattle.std.proofs.Common.{◌-◌}
use Rattle.bayou_connect.specs.Round.{AsksInRounds, GoesRound}
use Rattle.bayou_connect.specs.declared.told.ServerTold.{ServerTold}
use Rattle.bayou_connect.proofs.round.in_rounds.Given as goal

abbrev pub invariant-loop : goal.invariant-loop
invariant-loop g l = (new : _) (told : ServerTold) → GoesRound (g.W.Ways.asks l.what) l.is_read l.order (l.more - l.counter) l.ways l.told new told
    → AsksInRounds (g.W.Ways.asks l.what) l.is_read l.order l.more l.fn.ways new told
