use Rattle.std.proofs.Common.{ap, refl, ◌∙◌}
use Rattle.bayou_machine.specs.Run.{ScriptState}
use Rattle.bayou_machine.proofs.machine.Machine.evidence.Goals as goal

pub returns : goal.returns
returns g c = record {
  file = _;
  answered = refl;
  count = c.count.ensures.value ∙ ap (λ (state : ScriptState). state.standing.count) c.self.view_is;
  entries = c.in_ok-entries.ensures ∙ ap (λ (state : ScriptState). state.book.entries) c.self.view_is;
  dumps = rw (← c.self.view_is) c.in_ok-dumps.ensures.held;
}
