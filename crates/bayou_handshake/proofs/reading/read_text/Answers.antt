use Rattle.std.proofs.Common.{◌++◌}
use Rattle.std.proofs.KnownBytes.{Consumes-trans}
use Rattle.std.proofs.lemmas.Result.{err_from_is_err_and}
use Rattle.bayou_handshake.proofs.reading.read_text.Goals as goal

pub returns-in_err-read_up_to-clause-reads : goal.returns-in_err-read_up_to-clause-reads
returns-in_err-read_up_to-clause-reads g c =
    let (first, went, _) = c.in-Ok.ensures.reads in
    let (more, gone, _) = c.in_err-read_up_to.ensures.reads in
    let fails = err_from_is_err_and c.from_residual.result c.from_residual.ensures.1 in
    (first ++ more, Consumes-trans _ _ _ _ _ went gone, rw fails.1 tt)
