use Rattle.std.proofs.Common.{arith}
use Rattle.bayou_wire.specs.Laws.Inner.Fronts.{write_answer-none, write_answer-whole, write_answer-more, one_write_answer}
use Rattle.bayou_wire.proofs.Giving.{gives_none, gives_some}
use Rattle.bayou_wire.proofs.decode.decode_resting_write.Goals as goal

pub returns-in-None-clause-answer : goal.returns-in-None-clause-answer
returns-in-None-clause-answer c = write_answer-none _ (gives_none _ _ _ c.in_ok-resting_write_of.ensures c.in-None.is)

pub returns-in-None-clause-only : goal.returns-in-None-clause-only
returns-in-None-clause-only c other is =
    one_write_answer _ _ other (write_answer-none _ (gives_none _ _ _ c.in_ok-resting_write_of.ensures c.in-None.is)) is

pub returns-in-Some-default-empty-clause-answer : goal.returns-in-Some-default-empty-clause-answer
returns-in-Some-default-empty-clause-answer c =
    write_answer-whole _ _ _ (λ i. omega (arith, c.type_inv.bytes i)) (gives_some _ _ _ _ c.in_ok-resting_write_of.ensures c.in-Some-default-empty.is) c.in-Some-default-empty.len_below

pub returns-in-Some-default-empty-clause-only : goal.returns-in-Some-default-empty-clause-only
returns-in-Some-default-empty-clause-only c other is =
    let front = gives_some _ _ _ _ c.in_ok-resting_write_of.ensures c.in-Some-default-empty.is in
    one_write_answer _ _ other (write_answer-whole _ _ _ (λ i. omega (arith, c.type_inv.bytes i)) front c.in-Some-default-empty.len_below) is

pub returns-in-Some-default-len1-up-clause-answer : goal.returns-in-Some-default-len1-up-clause-answer
returns-in-Some-default-len1-up-clause-answer c =
    write_answer-more _ _ _ (λ i. omega (arith, c.type_inv.bytes i)) (gives_some _ _ _ _ c.in_ok-resting_write_of.ensures c.in-Some-default-len1-up.is) c.in-Some-default-len1-up.len_at_least

pub returns-in-Some-default-len1-up-clause-only : goal.returns-in-Some-default-len1-up-clause-only
returns-in-Some-default-len1-up-clause-only c other is =
    let front = gives_some _ _ _ _ c.in_ok-resting_write_of.ensures c.in-Some-default-len1-up.is in
    one_write_answer _ _ other (write_answer-more _ _ _ (λ i. omega (arith, c.type_inv.bytes i)) front c.in-Some-default-len1-up.len_at_least) is
