use Rattle.bayou_wire.specs.Laws.Inner.Formats.{begins_one, write_format}
use Rattle.bayou_wire.proofs.laws.no_write_begins_another.Goals as goal

pub returns : goal.returns
returns c a b x y is_a is_b same = begins_one write_format a b x y is_a is_b same
