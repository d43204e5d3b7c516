use Rattle.std.proofs.Common.{◌∙◌, ap, length}
use Rattle.bayou_wire.specs.Laws.Inner.Readers.{length-times}
use Rattle.bayou_wire.proofs.take.vector_of.Goals as goal

pub vector_from-requires : goal.vector_from-requires
vector_from-requires c = ap length c.as_slice.ensures.value ∙ length-times _ _ _ _ _ c.in-Some.ensures
