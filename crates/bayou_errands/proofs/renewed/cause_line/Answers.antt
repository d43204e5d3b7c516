use Rattle.std.proofs.lemmas.Result.{IfOk-weaker}
use Rattle.bayou_errands.proofs.renewed.cause_line.Goals as goal

pub returns : goal.returns
returns c = IfOk-weaker c.told_line.result _ _ (λ line h. (_, _, h)) c.told_line.ensures
