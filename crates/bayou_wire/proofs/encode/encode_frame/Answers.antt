use Rattle.std.proofs.lemmas.Result.{IfOk-weaker}
use Rattle.bayou_wire.specs.Laws.Inner.Sizes.{framed_size}
use Rattle.bayou_wire.proofs.encode.encode_frame.Goals as goal

pub returns-clause-size : goal.returns-clause-size
returns-clause-size c = IfOk-weaker c.framed.result _ _ (λ bytes spells. framed_size bytes.items c.args.frame.now spells) c.framed.ensures
