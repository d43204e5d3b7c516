use Rattle.bayou_wire.specs.Laws.Inner.Readers.{prefix_at-not_utf8}
use Rattle.bayou_wire.proofs.take.prefix_of.Goals as goal

pub returns-in_default-from_utf8 : goal.returns-in_default-from_utf8
returns-in_default-from_utf8 c = prefix_at-not_utf8 _ _ _ c.in-Some.ensures c.in_default-from_utf8.ensures.cases.0
