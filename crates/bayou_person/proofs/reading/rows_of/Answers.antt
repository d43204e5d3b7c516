use Rattle.std.proofs.Common.{[], codes, refl}
use Rattle.std.proofs.lemmas.Result.{err_from_is_err_and}
use Rattle.bayou_person.proofs.Telling.{first_key}
use Rattle.bayou_person.proofs.reading.rows_of.Goals as goal

pub returns-in_err-prefix : goal.returns-in_err-prefix
returns-in_err-prefix c =
    let told = err_from_is_err_and c.from_residual.result c.from_residual.ensures.1 in
    let (why, is, bad) = c.in_err-prefix.ensures in
    rw (told.1, told.2, is) (first_key (codes "list") c.args.prefix.now [] why refl refl refl bad)
