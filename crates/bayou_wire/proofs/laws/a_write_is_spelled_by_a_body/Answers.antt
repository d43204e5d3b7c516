use Rattle.std.proofs.Common.{refl, arith}
use Rattle.bayou_wire.specs.Spelling.{write_bytes}
use Rattle.bayou_wire.specs.Laws.Inner.Sizes.{written_size}
use Rattle.bayou_wire.proofs.laws.a_write_is_spelled_by_a_body.Goals as goal

pub returns : goal.returns
returns c = λ write is. let size = written_size (write_bytes write) write is refl in (size.0, omega (arith, size.1))
