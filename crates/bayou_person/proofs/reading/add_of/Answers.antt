use Rattle.std.proofs.Common.{[], ◌∷◌, codes, refl}
use Rattle.std.proofs.lemmas.Result.{err_from_is_err_and}
use Rattle.bayou_person.proofs.Telling.{first_key}
use Rattle.bayou_person.proofs.reading.add_of.Goals as goal

pub returns-in_err-key : goal.returns-in_err-key
returns-in_err-key c =
    let told = err_from_is_err_and c.from_residual.result c.from_residual.ensures.1 in
    let (why, is, bad) = c.in_err-key.ensures in
    rw (told.1, told.2, is) (first_key (codes "add") c.args.key.now (c.args.word.now ∷ []) why refl refl refl bad)
