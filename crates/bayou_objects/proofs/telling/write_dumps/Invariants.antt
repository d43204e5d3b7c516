-- what the servers so far hold was written or waits, and no fewer turns are left
use Rattle.std.proofs.Common.{◌≤◌, []}
use Rattle.bayou_judge.specs.History.{lent_lists}
use Rattle.bayou_objects.specs.Objects.{dumps_json}
use Rattle.bayou_print.specs.Waiting.{Gathers, stage}
use Rattle.bayou_objects.proofs.telling.write_dumps.Given as goal

abbrev pub invariant-loop-index : goal.invariant-loop-index
invariant-loop-index g l =
    Gathers (stage g.W.Write.contents l.initial.output l.initial.waiting) (stage g.W.Write.contents l.output l.waiting) (dumps_json l.count (lent_lists l.dumps) l.index) []
    × (l.initial.output.channel.turns_left ≤ l.output.channel.turns_left)
