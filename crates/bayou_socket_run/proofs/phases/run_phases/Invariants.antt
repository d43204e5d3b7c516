-- what was told so far is whole, and no fewer turns are left
use Rattle.std.proofs.Common.{◌≤◌, length, map}
use Rattle.bayou_script.specs.Phases.{phases_of}
use Rattle.bayou_script.specs.NetworkSaid.{network_said}
use Rattle.bayou_print.specs.Waiting.{stage}
use Rattle.bayou_socket_run.proofs.Told.{Whole}
use Rattle.bayou_socket_run.proofs.phases.run_phases.Given as goal

abbrev pub invariant-loop-inquiry : goal.invariant-loop-inquiry
invariant-loop-inquiry g l = record {
  whole : Whole (stage g.W.Write.contents l.initial.output l.initial.waiting) (stage g.W.Write.contents l.output l.waiting);
  ready : l.initial.output.channel.turns_left ≤ l.output.channel.turns_left;
}

abbrev pub decreases-loop-inquiry : goal.decreases-loop-inquiry
decreases-loop-inquiry g l = length (phases_of (map network_said l.commands.items))
