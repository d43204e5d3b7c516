-- nothing but what is asked of servers changes
use Rattle.std.proofs.Common.{◌≡◌}
use Rattle.bayou_connect.specs.Desks.{IsSameSeat}
use Rattle.bayou_connect.proofs.desk.PersonDesk.rows_of.Given as goal

abbrev pub invariant-loop-time : goal.invariant-loop-time
invariant-loop-time g l = IsSameSeat l.fn.self l.self × (l.self.is_served ≡ l.fn.self.is_served)
