-- what was taken and what is left are all that there was, and nothing that was taken ends a phase
use Rattle.std.proofs.Common.{◌≡◌, ◌++◌, IsTrue, length, map}
use Rattle.std.specs.List.{list_all}
use Rattle.bayou_script.proofs.Phased.{goes_on}
use Rattle.bayou_script.proofs.phases.next_phase.Given as goal

abbrev pub invariant-loop-command : goal.invariant-loop-command
invariant-loop-command g l = record {
  cut : l.initial.commands.items ≡ l.phase.items ++ l.commands.items;
  on : IsTrue (list_all goes_on (map g.C.Spoken.line l.phase.items));
}

abbrev pub decreases-loop-command : goal.decreases-loop-command
decreases-loop-command g l = length l.commands.items
