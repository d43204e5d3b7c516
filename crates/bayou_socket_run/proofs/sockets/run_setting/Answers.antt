use Rattle.std.proofs.lemmas.Result.{err_from_is_err_and}
use Rattle.bayou_socket_run.proofs.sockets.run_setting.Goals as goal

pub returns-in_err-network-clause-ended : goal.returns-in_err-network-clause-ended
returns-in_err-network-clause-ended g c =
    let p = err_from_is_err_and c.from_residual.result c.from_residual.ensures.1 in
    rw (p.1, p.2) (c.in_err-network.ensures.writes _ _)
