use Rattle.std.proofs.Common.{◌≡◌, IfOk, refl, subst}
use Rattle.bayou_net.specs.Replies.{reopen_reply}
use Rattle.bayou_wire.specs.declared.frame.Frame.{Frame}
use Rattle.bayou_wire.specs.Stream.{spelling}
use Rattle.bayou_net.proofs.replying.of_reopen.Goals as goal

pub returns : goal.returns
returns g c = (
  spelling (reopen_reply c.reopen.result),
  (c.reopen.result, c.reopen.ensures, refl),
  subst (λ (frame : Frame). IfOk c.encoded.result (λ text. text.items ≡ spelling frame)) c.told_reopen-frame.ensures c.encoded.ensures,
)
