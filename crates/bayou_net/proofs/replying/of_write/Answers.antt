use Rattle.std.proofs.Common.{◌≡◌, IfOk, subst}
use Rattle.bayou_wire.specs.declared.frame.Frame.{Frame}
use Rattle.bayou_wire.specs.Stream.{spelling}
use Rattle.bayou_net.proofs.replying.of_write.Goals as goal

pub returns : goal.returns
returns g c = (
  c.write.result,
  c.write.ensures,
  subst (λ (frame : Frame). IfOk c.encoded.result (λ text. text.items ≡ spelling frame)) c.told_write-frame.ensures c.encoded.ensures,
)
