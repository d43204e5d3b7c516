use Rattle.std.proofs.Common.{◌≤◌, arith, codes, length, map, refl}
use Rattle.std.proofs.lemmas.List.{length-map}
use Rattle.std.proofs.lemmas.Result.{err_from_is_err_and}
use Rattle.bayou_base.specs.declared.limits.TheConstants.{MAX_ALTERNATIVES}
use Rattle.bayou_person.proofs.Telling.{first_key, get_other, get_takes}
use Rattle.bayou_person.proofs.reading.get_of.Goals as goal

pub returns-in_err-key : goal.returns-in_err-key
returns-in_err-key c =
    let told = err_from_is_err_and c.from_residual.result c.from_residual.ensures.1 in
    let (why, is, bad) = c.in_err-key.ensures in
    let others = map (λ word. word.now) c.args.others.now in
    let few : length others ≤ MAX_ALTERNATIVES = omega (arith, length-map c.args.others.now (λ word. word.now), c.requires) in
    rw (told.1, told.2, is) (first_key (codes "get") c.args.key.now others why refl (get_takes c.args.key.now others few) refl bad)

pub returns-in_err-others : goal.returns-in_err-others
returns-in_err-others c =
    let told = err_from_is_err_and c.from_residual-in_err-others.result c.from_residual-in_err-others.ensures.1 in
    let (good, other, after, why, split, all, bad, is) = c.in_err-others.ensures in
    let others = map (λ word. word.now) c.args.others.now in
    let few : length others ≤ MAX_ALTERNATIVES = omega (arith, length-map c.args.others.now (λ word. word.now), c.requires) in
    rw (told.1, told.2, is) (get_other c.args.key.now others good other after why few c.in_ok-key.ensures.0 split all bad)
