use Rattle.bayou_person.proofs.Named.{name_told, no_parts, parts_are}
use Rattle.bayou_person.proofs.name.wid_in.Goals as goal

pub returns-in_err-origin : goal.returns-in_err-origin
returns-in_err-origin c = rw c.from_residual.ensures (no_parts c.args.word.now c.split_once.result c.split_once.ensures.cases c.in_err-origin.was)

pub returns-in_err-origin_in : goal.returns-in_err-origin_in
returns-in_err-origin_in c =
    let parts = parts_are c.args.word.now c.split_once.result c.in_ok-origin.origin c.in_ok-origin.seq in
    rw c.from_residual-in_err-origin_in.ensures
    (λ wid reads. c.in_err-origin_in.ensures wid.origin (parts wid c.split_once.ensures.cases c.in_ok-origin.was reads).0)

pub returns : goal.returns
returns c =
    name_told c.args.word.now c.split_once.result c.in_ok-origin.origin c.in_ok-origin.seq c.in_ok-origin_in.field-0 c.write_in.result
    c.split_once.ensures.cases c.in_ok-origin.was c.in_ok-origin_in.ensures c.write_in.ensures
