use Rattle.bayou_wire.specs.Laws.Inner.Fronts.{one_write_answer as one_answer}
use Rattle.bayou_wire.proofs.laws.one_write_answer.Goals as goal

pub returns : goal.returns
returns c bytes a b x y = one_answer bytes a b x y
