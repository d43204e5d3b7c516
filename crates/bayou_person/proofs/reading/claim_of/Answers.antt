use Rattle.std.proofs.Common.{All, arith, map, subst}
use Rattle.std.proofs.lemmas.List.{length-map}
use Rattle.std.proofs.lemmas.Result.{err_from_is_err_and}
use Rattle.bayou_lang.specs.Ranges.{IsKey}
use Rattle.bayou_person.proofs.Telling.{claim_key, claim_other, claim_value}
use Rattle.bayou_person.proofs.reading.claim_of.Goals as goal

pub returns-in_err-key : goal.returns-in_err-key
returns-in_err-key c =
    let told = err_from_is_err_and c.from_residual.result c.from_residual.ensures.1 in
    let (why, is, bad) = c.in_err-key.ensures in
    rw (told.1, told.2, is) (claim_key c.args.key.now (map (λ word. word.now) c.args.others.now) c.args.word.now why (omega (arith, length-map c.args.others.now (λ word. word.now), c.requires)) bad)

pub returns-in_err-others : goal.returns-in_err-others
returns-in_err-others c =
    let told = err_from_is_err_and c.from_residual-in_err-others.result c.from_residual-in_err-others.ensures.1 in
    let (good, other, after, why, split, all, bad, is) = c.in_err-others.ensures in
    rw (told.1, told.2, is)
    (claim_other c.args.key.now (map (λ word. word.now) c.args.others.now) good other after c.args.word.now why (omega (arith, length-map c.args.others.now (λ word. word.now), c.requires)) c.in_ok-key.ensures.0 split all bad)

pub returns-in_err-value : goal.returns-in_err-value
returns-in_err-value c =
    let told = err_from_is_err_and c.from_residual-in_err-value.result c.from_residual-in_err-value.ensures.1 in
    rw (told.1, told.2)
    (claim_value c.args.key.now (map (λ word. word.now) c.args.others.now) c.args.word.now _ (omega (arith, length-map c.args.others.now (λ word. word.now), c.requires))
    c.in_ok-key.ensures.0 (subst (All IsKey) c.in_ok-others.ensures.0 c.in_ok-others.ensures.1) c.in_err-value.ensures)
