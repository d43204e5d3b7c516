use Rattle.std.proofs.Common.{◌≡◌}
use Rattle.bayou_connect.proofs.reach.Access.greeted.Given as goal

abbrev pub invariant-loop : goal.invariant-loop
invariant-loop g l = l.self.place ≡ l.fn.self.place
