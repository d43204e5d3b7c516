-- what was put by now, and what is to come
use Rattle.std.proofs.Common.{map}
use Rattle.bayou_fleet.proofs.phase.Phase.arranged.Given as goal
use Rattle.bayou_fleet.specs.Phases.{AreArranged}
use Rattle.bayou_script.specs.NetworkSaid.{network_said}

abbrev pub invariant-loop-command : goal.invariant-loop-command
invariant-loop-command l =
    AreArranged l.phase.openings.items l.phase.operations.items l.phase.pulls.items l.phase.closings.items (map network_said l.command-iterator.rest.items) (map network_said l.fn.commands.items)
