-- what was told so far is whole, and no fewer turns are left
use Rattle.std.proofs.Common.{◌≤◌, []}
use Rattle.bayou_print.specs.Waiting.{Gathers, stage}
use Rattle.bayou_socket_run.specs.Books.{lines_of}
use Rattle.bayou_socket_run.proofs.settling.write_nodes.Given as goal

abbrev pub invariant-loop-index : goal.invariant-loop-index
invariant-loop-index g l = record {
  whole : Gathers (stage g.W.Write.contents l.initial.output l.initial.waiting) (stage g.W.Write.contents l.output l.waiting) (lines_of l.index l.nodes) [];
  ready : l.initial.output.channel.turns_left ≤ l.output.channel.turns_left;
}
