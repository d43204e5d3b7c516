use Rattle.std.proofs.lemmas.Result.{err_from_is_err_and}
use Rattle.bayou_client.proofs.Growing.{not_kept}
use Rattle.bayou_client.proofs.reading.take_frame.Goals as goal

pub returns-in_err-keep-clause-takes : goal.returns-in_err-keep-clause-takes
returns-in_err-keep-clause-takes c read behind is before =
    let told = err_from_is_err_and c.from_residual.result c.from_residual.ensures.1 in
    rw (told.1, told.2) (not_kept c.args.many read behind c.args.writes.now.items c.in-Some.write.now c.args.frame _ c.in-Some.ensures.item.1 c.in_err-keep.ensures.refused before)
