use Rattle.std.proofs.Common.{◌++◌, refl}
use Rattle.bayou_wire.specs.Spelling.{frame_bytes}
use Rattle.bayou_wire.specs.Laws.Inner.Fronts.{whole_not_faulty, whole_not_partial}
use Rattle.bayou_wire.proofs.laws.a_whole_frame_has_no_fault.Goals as goal

pub returns : goal.returns
returns c = record {
  partial = λ frame behind is. whole_not_partial (frame_bytes frame ++ behind) frame behind is refl;
  faulty = λ frame behind fault is. whole_not_faulty (frame_bytes frame ++ behind) frame behind fault is refl;
}
