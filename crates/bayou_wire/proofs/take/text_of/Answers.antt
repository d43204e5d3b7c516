use Rattle.std.proofs.Common.{refl}
use Rattle.bayou_wire.specs.Laws.Inner.Readers.{text_at-not_utf8, text_is}
use Rattle.bayou_wire.proofs.take.text_of.Goals as goal

pub returns-in_default-from_utf8 : goal.returns-in_default-from_utf8
returns-in_default-from_utf8 c = text_at-not_utf8 _ _ _ c.in-Some.ensures c.in_default-from_utf8.ensures.cases.0

pub returns : goal.returns
returns c = text_is _ _ _ _ _ c.in-Some.ensures c.in-Ok.ensures.cases.1 c.in-Ok.ensures.cases.0 (c.in-Some-new.ensures.within.0 refl) c.in-Some-new.ensures.value
