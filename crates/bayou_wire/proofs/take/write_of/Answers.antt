use Rattle.bayou_wire.specs.Laws.Inner.Readers.{write_at-made}
use Rattle.bayou_wire.proofs.take.write_of.Goals as goal

pub returns : goal.returns
returns c = write_at-made _ _ _ _ _ _ c.in-Some.ensures c.in-Some-program_of.ensures
