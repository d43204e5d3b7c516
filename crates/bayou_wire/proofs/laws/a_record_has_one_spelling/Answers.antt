use Rattle.bayou_wire.specs.Laws.Records.{one_spelling}
use Rattle.bayou_wire.proofs.laws.a_record_has_one_spelling.Goals as goal

pub returns : goal.returns
returns c = one_spelling
