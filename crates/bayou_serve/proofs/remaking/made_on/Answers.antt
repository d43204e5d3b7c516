use Rattle.std.proofs.lemmas.Result.{err_from_is_err_and}
use Rattle.bayou_serve.proofs.Gathering.{may_end}
use Rattle.bayou_serve.proofs.remaking.made_on.Goals as goal

pub returns-in_err-restore-clause-fault : goal.returns-in_err-restore-clause-fault
returns-in_err-restore-clause-fault g c =
    let p = err_from_is_err_and c.from_residual-in_err-restore.result c.from_residual-in_err-restore.ensures.1 in
    rw (p.1, p.2) (may_end c.in_err-restore.field-0.0)
