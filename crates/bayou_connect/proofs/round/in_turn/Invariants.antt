-- those from the first on so far, and then those before it
use Rattle.std.proofs.Common.{◌≡◌, ◌++◌, ◌-◌}
use Rattle.std.specs.List.{range_with_len}
use Rattle.bayou_connect.proofs.round.in_turn.Given as goal

abbrev pub invariant-loop-at : goal.invariant-loop-at
invariant-loop-at l = l.order.items ≡ range_with_len l.fn.first (l.at - l.fn.first)

abbrev pub invariant-loop-at-2 : goal.invariant-loop-at-2
invariant-loop-at-2 l = l.order.items ≡ range_with_len l.fn.first (l.fn.count - l.fn.first) ++ range_with_len 0 l.at
