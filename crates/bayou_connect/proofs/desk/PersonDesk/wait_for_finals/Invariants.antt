-- nothing but what is known of what is final changes, and what is printed
use Rattle.std.proofs.Common.{◌≡◌}
use Rattle.bayou_connect.specs.Desks.{IsSameDesk}
use Rattle.bayou_connect.proofs.desk.PersonDesk.wait_for_finals.Given as goal

abbrev pub invariant-loop : goal.invariant-loop
invariant-loop g l = IsSameDesk l.fn.self l.self × (l.self.is_served ≡ l.fn.self.is_served)
