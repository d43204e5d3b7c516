use Rattle.std.proofs.Common.{arith}
use Rattle.bayou_wire.specs.Laws.Records.{record_size}
use Rattle.bayou_wire.proofs.laws.a_record_is_spelled_by_a_body.Goals as goal

pub returns : goal.returns
returns c = λ form bytes given spells. let size = record_size form bytes given spells in (size.0, omega (arith, size.1))
