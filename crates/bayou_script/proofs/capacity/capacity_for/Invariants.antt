-- the operations among the commands so far
use Rattle.std.proofs.Common.{◌≡◌, ◌≤◌, filter, length, take}
use Rattle.bayou_script.proofs.Counted.{is_tried}
use Rattle.bayou_script.proofs.capacity.capacity_for.Given as goal

abbrev pub invariant-loop-at : goal.invariant-loop-at
invariant-loop-at g l = record {
  so_far : l.tried ≡ length (filter (is_tried g.C.Spoken.line) (take l.at l.commands.items));
  few : l.tried ≤ l.at;
}
