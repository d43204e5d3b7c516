use Rattle.std.proofs.Common.{◌∙◌, ap}
use Rattle.bayou_wire.specs.Inner.Reading.{vector_of}
use Rattle.bayou_wire.specs.Laws.Inner.Readers.{vector_of-given}
use Rattle.bayou_wire.proofs.take.vector_from.Goals as goal

pub returns : goal.returns
returns c = vector_of-given _ _ c.from_counts.ensures.within c.from_counts.ensures.value ∙ ap vector_of c.copy_from_slice.ensures.after
