use Rattle.std.proofs.lemmas.Result.{IfOk-weaker}
use Rattle.bayou_wire.specs.declared.frame.Frame.TheVariants.{Item}
use Rattle.bayou_wire.specs.Laws.Inner.Sizes.{framed_size}
use Rattle.bayou_wire.proofs.encode.encode_item.Goals as goal

pub returns-clause-size : goal.returns-clause-size
returns-clause-size c = IfOk-weaker c.framed_item.result _ _ (λ bytes spells. framed_size bytes.items (Item c.args.write.now) spells) c.framed_item.ensures
