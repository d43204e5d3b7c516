use Rattle.std.proofs.Common.{◌≤◌}
use Rattle.bayou_serve.proofs.searching.search.Given as goal

abbrev pub invariant-loop : goal.invariant-loop
invariant-loop g l = l.span.high ≤ l.fn.count
