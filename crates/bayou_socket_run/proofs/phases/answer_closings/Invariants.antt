-- what was told so far is whole, and no fewer turns are left
use Rattle.std.proofs.Common.{◌≤◌, length}
use Rattle.bayou_print.specs.Waiting.{stage}
use Rattle.bayou_socket_run.proofs.Told.{Whole}
use Rattle.bayou_socket_run.proofs.phases.answer_closings.Given as goal

abbrev pub invariant-loop-closing : goal.invariant-loop-closing
invariant-loop-closing g l = record {
  whole : Whole (stage g.W.Write.contents l.initial.output l.initial.waiting) (stage g.W.Write.contents l.output l.waiting);
  ready : l.initial.output.channel.turns_left ≤ l.output.channel.turns_left;
}

abbrev pub decreases-loop-closing : goal.decreases-loop-closing
decreases-loop-closing g l = length l.closings.items
