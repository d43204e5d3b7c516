use Rattle.std.proofs.lemmas.Result.{err_from_is_err_and}
use Rattle.bayou_frames.specs.Laws.Bytes.{front_of_nothing}
use Rattle.bayou_net.proofs.serving.do_other.Goals as goal

pub returns-in_err-text-clause-does : goal.returns-in_err-text-clause-does
returns-in_err-text-clause-does g c =
    let (reply, serves, told) = c.reply_to.ensures in
    let p = err_from_is_err_and c.from_residual.result c.from_residual.ensures.1 in
    rw (p.1, p.2) (reply, serves, front_of_nothing _ reply)
