use Rattle.std.proofs.Common.{rules, ◌≡◌, ◌≢◌, ◌++◌, [], List, ap, ◌∙◌, true}
use Rattle.bayou_script.specs.Phases.{ends_phase}
use Rattle.bayou_script.proofs.Phased.{taken_ended, taken_last}
use Rattle.bayou_script.proofs.phases.next_phase.Goals as goal

pub returns-then-ends_phase-clause-phase : goal.returns-then-ends_phase-clause-phase
returns-then-ends_phase-clause-phase g c =
    let ends : ends_phase (g.C.Spoken.line c.in-Some.command) ≡ true = search rules in
    taken_ended g.C.Spoken.line c.args.commands.now.items c.loop-command.phase.items c.in-Some.command c.pop_front.new.self.items
    (c.loop-command.invariant.cut ∙ ap (λ (l : List g.row.C.Denot). c.loop-command.phase.items ++ l) c.in-Some.ensures.items) c.loop-command.invariant.on ends

pub returns-clause-phase : goal.returns-clause-phase
returns-clause-phase g c =
    let some : c.args.commands.now.items ≢ [] = search rules in
    let none : c.pop_front.new.self.items ≡ [] = search rules in
    let same : c.loop-command.commands.items ≡ c.pop_front.new.self.items = search rules in
    taken_last g.C.Spoken.line c.args.commands.now.items c.loop-command.phase.items c.pop_front.new.self.items
    (c.loop-command.invariant.cut ∙ ap (λ (l : List g.row.C.Denot). c.loop-command.phase.items ++ l) same) none some c.loop-command.invariant.on
