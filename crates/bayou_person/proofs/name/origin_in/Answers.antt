use Rattle.std.proofs.Common.{◌≡◌, arith, decimal, subst}
use Rattle.bayou_person.proofs.Named.{no_origin, origin_told, past_byte, same_byte}
use Rattle.bayou_person.proofs.name.origin_in.Goals as goal

pub returns-in_err-index : goal.returns-in_err-index
returns-in_err-index c =
    let past = past_byte c.try_from.result c.in_ok-count_in.field-0 c.try_from.ensures c.in_err-index.ensures.value in
    rw c.from_residual-in_err-index.ensures
    (no_origin c.args.word.now c.in_ok-count_in.field-0 (omega arith) c.in_ok-count_in.ensures (λ few. absurd (past (omega (arith, few)))))

pub returns : goal.returns
returns c =
    let same = same_byte c.try_from.result c.in_ok-count_in.field-0 c.in_ok-index.index c.try_from.ensures c.in_ok-index.ensures.value in
    let spelled = subst (λ n. c.args.word.now ≡ decimal n) same c.in_ok-count_in.ensures in
    origin_told c.args.word.now c.in_ok-index.index c.new.result (omega arith) spelled c.new.ensures.within c.new.ensures.value
