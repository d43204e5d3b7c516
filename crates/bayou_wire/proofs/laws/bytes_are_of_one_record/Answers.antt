use Rattle.bayou_wire.specs.Laws.Records.{one_record}
use Rattle.bayou_wire.proofs.laws.bytes_are_of_one_record.Goals as goal

pub returns : goal.returns
returns c form bytes a b is other = one_record form bytes a b is other
