use Rattle.bayou_wire.specs.Laws.Inner.Fronts.{frame_length}
use Rattle.bayou_wire.proofs.laws.a_frame_has_its_length.Goals as goal

pub returns : goal.returns
returns c = frame_length
