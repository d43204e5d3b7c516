-- the entries so far are counted, and there are no more than stand before it
use Rattle.std.proofs.Common.{◌≡◌, ◌≤◌, length, take}
use Rattle.std.specs.List.{filter}
use Rattle.bayou_explain.specs.Located.{tells_entry}
use Rattle.bayou_explain.proofs.refused.place_of_entry.Given as goal

abbrev pub invariant-loop-at : goal.invariant-loop-at
invariant-loop-at l = (l.seen ≡ length (filter tells_entry (take l.at l.lines))) × (l.seen ≤ l.number)
