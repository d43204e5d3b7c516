use Rattle.std.proofs.Common.{inr}
use Rattle.std.proofs.lemmas.Result.{err_from_is_err_and}
use Rattle.bayou_print.proofs.waiting.Waiting.end.Goals as goal

pub returns-in_err-write-in-Ok-clause-cause : goal.returns-in_err-write-in-Ok-clause-cause
returns-in_err-write-in-Ok-clause-cause g c =
    let p = err_from_is_err_and c.from_residual.result c.from_residual.ensures.1 in
    rw (p.1, p.2) (inr c.in_err-write-in-Ok.ensures.at_output)
