use Rattle.std.proofs.Common.{◌∙◌, ap, length}
use Rattle.bayou_wire.specs.Laws.Inner.Readers.{length-times}
use Rattle.bayou_wire.proofs.greeting_take.digests_of.Goals as goal

pub digests_from-requires : goal.digests_from-requires
digests_from-requires c = ap length c.as_slice.ensures.value ∙ length-times _ _ _ _ _ c.in-Some.ensures
