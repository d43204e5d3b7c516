-- what was answered so far is a run, what was written or waits is what is printed for it, and no fewer turns are left
use Rattle.std.proofs.Common.{◌≤◌, length}
use Rattle.bayou_script.specs.Plan.{plan_of}
use Rattle.bayou_print.specs.Waiting.{stage}
use Rattle.bayou_tasks.proofs.Runs.{SoFar}
use Rattle.bayou_tasks.proofs.run.answer_each.Given as goal

abbrev pub invariant-loop-command : goal.invariant-loop-command
invariant-loop-command g l = record {
  so_far : SoFar l.fn.form (plan_of l.fn.script) l.ended l.machine l.commands.items (stage g.W.Write.contents l.initial.output l.initial.waiting)
      (stage g.W.Write.contents l.output l.waiting);
  ready : l.initial.output.channel.turns_left ≤ l.output.channel.turns_left;
}

abbrev pub decreases-loop-command : goal.decreases-loop-command
decreases-loop-command g l = length l.commands.items
