use Rattle.std.proofs.lemmas.Result.{err_from_is_err_and}
use Rattle.bayou_script.specs.Order.{lines_of}
use Rattle.bayou_script.proofs.text.TextReader.finish.Goals as goal

pub returns-in_err-end-clause-said : goal.returns-in_err-end-clause-said
returns-in_err-end-clause-said g c bytes read =
    let p = err_from_is_err_and c.from_residual.result c.from_residual.ensures.1 in rw (p.1, p.2) (c.in_err-end.ensures bytes read)

pub returns-clause-said : goal.returns-clause-said
returns-clause-said g c bytes read =
    let (front, in_order, kept) = c.in_ok-end.ensures bytes read in c.finish.ensures.said (lines_of bytes) front in_order kept
