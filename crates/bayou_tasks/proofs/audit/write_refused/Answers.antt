use Rattle.std.proofs.Common.{◌∙◌, ℕ, List, Err, sym, subst}
use Rattle.std.specs.Io.{IsEmptyOrEndsWith}
use Rattle.std.proofs.lemmas.Result.{err_from_is_err_and}
use Rattle.bayou_print.specs.Laws.Ends.{verdict_ends}
use Rattle.bayou_print.specs.Laws.Gathered.{Gathers-none}
use Rattle.bayou_print.specs.Verdicts.{verdict_text}
use Rattle.bayou_tasks.proofs.audit.write_refused.Goals as goal

pub returns-in_err-line-clause-part : goal.returns-in_err-line-clause-part
returns-in_err-line-clause-part g c =
    let p = err_from_is_err_and c.from_residual.result c.from_residual.ensures.1 in
    rw (p.1, p.2) (tt, verdict_text (Err c.args.bad), Gathers-none _ _)

pub print-requires : goal.print-requires
print-requires g c =
    subst (λ (text : List ℕ). IsEmptyOrEndsWith text 10) (sym (c.as_bytes.ensures.value ∙ c.in_ok-line.ensures)) (verdict_ends (Err c.args.bad))
