-- those of the places so far
use Rattle.std.proofs.Common.{◌≡◌, cond, filter, not, take}
use Rattle.bayou_connect.specs.Round.{is_last}
use Rattle.bayou_connect.proofs.round.those.Given as goal

abbrev pub invariant-loop-at : goal.invariant-loop-at
invariant-loop-at l = l.found.items ≡ filter (λ at. cond l.wanted (is_last l.last at) (not (is_last l.last at))) (take l.at-index l.order)
