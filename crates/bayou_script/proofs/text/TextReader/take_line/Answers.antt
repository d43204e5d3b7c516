use Rattle.std.proofs.Common.{[], ◌∷◌, ◌++◌}
use Rattle.std.proofs.lemmas.Result.{err_from_is_err_and}
use Rattle.bayou_script.proofs.Cut.{IsRefusedSoFar-more}
use Rattle.bayou_script.proofs.text.TextReader.take_line.Goals as goal

pub returns-in_err-go_on : goal.returns-in_err-go_on
returns-in_err-go_on g c bytes read =
    let p = err_from_is_err_and c.from_residual.result c.from_residual.ensures.1 in
    rw (p.1, p.2)
    (IsRefusedSoFar-more g.F.Front.order (bytes ++ c.args.part.now) (10 ∷ []) c.in_err-go_on.field-0.0 (c.in_err-go_on.ensures bytes read))

pub returns : goal.returns
returns g c bytes read = c.end_line.ensures (bytes ++ c.args.part.now) (c.in_ok-go_on.ensures bytes read)
