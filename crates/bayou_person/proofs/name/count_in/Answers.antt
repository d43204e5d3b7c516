use Rattle.std.proofs.Common.{arith, rules}
use Rattle.std.proofs.lemmas.Fmt.{parse-decimal}
use Rattle.bayou_person.proofs.name.count_in.Goals as goal

pub returns-in_default : goal.returns-in_default
returns-in_default c count small is =
    let parsed = parse-decimal 32 count c.args.word.now c.parse.result small (omega (arith, small)) is c.parse.ensures.value.0 in
    search rules

pub returns-in_default-2 : goal.returns-in_default-2
returns-in_default-2 c count small is =
    let parsed = parse-decimal 32 count c.args.word.now c.parse.result small (omega (arith, small)) is c.parse.ensures.value.0 in
    absurd (cc)
