use Rattle.std.proofs.Common.{◌≡◌, Err, Ok, Result, arith}
use Rattle.bayou_lang.specs.declared.write.Write.{Write}
use Rattle.bayou_wire.specs.declared.fault.DecodeFault.{DecodeFault}
use Rattle.bayou_wire.specs.declared.fault.DecodeFault.TheVariants.{BadBody, Trailing}
use Rattle.bayou_wire.specs.Laws.Inner.Fronts.{write_answer-none, write_answer-whole, write_answer-more, one_write_answer}
use Rattle.bayou_wire.proofs.Giving.{gives_none, gives_some}
use Rattle.bayou_wire.proofs.record.whole_write.Goals as goal

pub returns-in-None : goal.returns-in-None
returns-in-None c write spells =
    let none : Result Write DecodeFault = Err BadBody in
    let one : Result Write DecodeFault = Ok write in
    let same : none ≡ one = one_write_answer _ none one (write_answer-none _ (gives_none _ _ _ c.in_ok-resting_write_of.ensures c.in-None.is)) spells in
    cc

pub returns-in-Some-default-empty : goal.returns-in-Some-default-empty
returns-in-Some-default-empty c =
    write_answer-whole _ _ _ (λ i. omega (arith, c.type_inv.bytes i)) (gives_some _ _ _ _ c.in_ok-resting_write_of.ensures c.in-Some-default-empty.is) c.in-Some-default-empty.len_below

pub returns-in-Some-default-len1-up : goal.returns-in-Some-default-len1-up
returns-in-Some-default-len1-up c write spells =
    let front = gives_some _ _ _ _ c.in_ok-resting_write_of.ensures c.in-Some-default-len1-up.is in
    let more : Result Write DecodeFault = Err Trailing in
    let one : Result Write DecodeFault = Ok write in
    let same : more ≡ one =
    one_write_answer _ more one (write_answer-more _ _ _ (λ i. omega (arith, c.type_inv.bytes i)) front c.in-Some-default-len1-up.len_at_least) spells in
    cc
