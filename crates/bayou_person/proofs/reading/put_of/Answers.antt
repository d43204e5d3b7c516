use Rattle.std.proofs.Common.{[], ◌∷◌, codes, refl}
use Rattle.std.proofs.lemmas.List.Elements.{All-cons, All-nil}
use Rattle.std.proofs.lemmas.Result.{err_from_is_err_and}
use Rattle.bayou_lang.specs.Ranges.{IsKey}
use Rattle.bayou_person.proofs.Telling.{first_key, value_told}
use Rattle.bayou_person.proofs.reading.put_of.Goals as goal

pub returns-in_err-key : goal.returns-in_err-key
returns-in_err-key c =
    let told = err_from_is_err_and c.from_residual.result c.from_residual.ensures.1 in
    let (why, is, bad) = c.in_err-key.ensures in
    rw (told.1, told.2, is) (first_key (codes "put") c.args.key.now (c.args.word.now ∷ []) why refl refl refl bad)

pub returns-in_err-value : goal.returns-in_err-value
returns-in_err-value c =
    let told = err_from_is_err_and c.from_residual-in_err-value.result c.from_residual-in_err-value.ensures.1 in
    let key = c.args.key.now in
    rw (told.1, told.2) (value_told (codes "put") (key ∷ []) c.args.word.now _ refl refl refl (All-cons IsKey key [] c.in_ok-key.ensures.0 (All-nil IsKey)) c.in_err-value.ensures)
