use Rattle.std.proofs.Common.{arith}
use Rattle.bayou_person.proofs.Named.{write_told}
use Rattle.bayou_person.proofs.name.write_in.Goals as goal

pub returns : goal.returns
returns c =
    write_told c.args.word.now c.in_ok-count_in.field-0 c.args.origin c.new.result (omega arith) c.in_ok-count_in.ensures
    c.new.ensures.within c.new.ensures.value
