use Rattle.std.proofs.lemmas.Result.{err_from_is_err_and}
use Rattle.bayou_handshake.proofs.reading.read_greeting.Goals as goal

pub returns-in_err-spelled-clause-reads : goal.returns-in_err-spelled-clause-reads
returns-in_err-spelled-clause-reads g c =
    let (read, went, _) = c.in_ok-text.ensures.reads in
    let fails = err_from_is_err_and c.from_residual-in_err-spelled.result c.from_residual-in_err-spelled.ensures.1 in
    (read, went, rw fails.1 tt)
