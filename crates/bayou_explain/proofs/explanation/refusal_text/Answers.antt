use Rattle.std.proofs.Common.{subst, sym}
use Rattle.std.proofs.lemmas.Result.{IfOk-weaker}
use Rattle.std.specs.Prelude.{string_bytes}
use Rattle.bayou_judge.specs.History.{lent_lists}
use Rattle.bayou_judge.specs.declared.verdict.BadEvidence.{BadEvidence}
use Rattle.bayou_explain.specs.Explanation.{TellsRefusal, told}
use Rattle.bayou_explain.proofs.explanation.refusal_text.Goals as goal

pub returns-in-Some : goal.returns-in-Some
returns-in-Some c =
    IfOk-weaker c.forged_text.result _ _
    (λ text tells. subst (λ (bad : BadEvidence). TellsRefusal c.args.lines.now c.args.count (lent_lists c.args.dumps.now) bad (string_bytes text)) (sym c.in-Forged.is) (told c.in-Some.forged tells.0 c.in-Some.ensures tells.1))
    c.forged_text.ensures
