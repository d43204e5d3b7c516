use Rattle.std.proofs.lemmas.Result.{IfOk-weaker}
use Rattle.bayou_explain.proofs.explanation.dump_text.Goals as goal

pub returns : goal.returns
returns c = IfOk-weaker c.dump_lines.result _ _ (λ text told. (c.misfit_at-misfit.result, told.0, c.misfit_at-misfit.ensures, told.1)) c.dump_lines.ensures
