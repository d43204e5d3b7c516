use Rattle.std.proofs.Common.{rules, ◌≡◌, ◌∷◌, map, subst, List}
use Rattle.bayou_fleet.specs.Phases.{AreArranged}
use Rattle.bayou_fleet.proofs.phase.Phase.arranged.Goals as goal
use Rattle.bayou_script.specs.declared.network.NetworkCommand.{NetworkCommand}
use Rattle.bayou_script.specs.NetworkSaid.{network_said}

pub loop-command-init : goal.loop-command-init
loop-command-init c = let p = c.in_ok-phase.ensures (map network_said c.args.commands.items) in search rules

pub loop-command-preserved : goal.loop-command-preserved
loop-command-preserved c =
    let cut : c.loop-command.command-iterator.rest.items ≡ c.in-Some.command ∷ c.next.new.self.rest.items = search rules in
    c.in_ok-put.ensures (map network_said c.next.new.self.rest.items) (map network_said c.args.commands.items)
    (subst (λ (xs : List NetworkCommand). AreArranged c.loop-command.phase.openings.items c.loop-command.phase.operations.items c.loop-command.phase.pulls.items c.loop-command.phase.closings.items (map network_said xs) (map network_said c.args.commands.items)) cut c.loop-command.invariant)
