use Rattle.std.proofs.Common.{◌≡◌, ◌*◌, ◌≤◌, sum, take}
use Rattle.bayou_judge.proofs.needs.size_of.Given as goal

abbrev pub invariant-loop-count : goal.invariant-loop-count
invariant-loop-count l = (l.size ≡ sum (take l.count-index l.count-items)) × (l.size ≤ l.count-index * 4294967295)
