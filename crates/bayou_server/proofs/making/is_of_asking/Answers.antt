use Rattle.std.proofs.Common.{ap, subst, sym, ◌∙◌}
use Rattle.bayou_base.specs.Vector.{Dominates}
use Rattle.bayou_lang.specs.Laws.Equality.{same_program-decides}
use Rattle.bayou_server.proofs.making.is_of_asking.Goals as goal

pub returns-then-eq : goal.returns-then-eq
returns-then-eq c = (
  λ yes. record {
    program_is = sym c.program.ensures ∙ (same_program-decides c.program.result.now c.args.program.now).0 (sym c.eq.ensures ∙ c.if-eq.true);
    covered = subst (λ deps. Dominates deps c.args.need.now) c.deps.ensures (c.dominates.ensures.counts.0 yes);
  },
  λ asked. c.dominates.ensures.counts.1 (subst (λ deps. Dominates deps c.args.need.now) (sym c.deps.ensures) asked.covered),
)

pub returns-else-eq : goal.returns-else-eq
returns-else-eq c = (
  λ yes. absurd (let no = c.if-eq.false in cc),
  λ asked. c.eq.ensures ∙ (same_program-decides c.program.result.now c.args.program.now).1 (c.program.ensures ∙ asked.program_is),
)
