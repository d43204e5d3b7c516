use Rattle.std.proofs.Common.{◌≡◌, IfOk, refl, subst}
use Rattle.bayou_net.specs.Replies.{read_reply}
use Rattle.bayou_wire.specs.declared.frame.Frame.{Frame}
use Rattle.bayou_wire.specs.Stream.{spelling}
use Rattle.bayou_net.proofs.replying.of_read.Goals as goal

pub returns : goal.returns
returns g c = (
  spelling (read_reply c.read.result),
  (c.read.result, c.read.ensures.reads, refl, c.read.ensures.same),
  subst (λ (frame : Frame). IfOk c.encoded.result (λ text. text.items ≡ spelling frame)) c.told_read-frame.ensures c.encoded.ensures,
)
