use Rattle.std.proofs.Common.{◌∙◌, refl}
use Rattle.bayou_restore.proofs.Held.{is_another, is_there}
use Rattle.bayou_restore.proofs.gathering.gather.Goals as goal

pub returns-in-Some : goal.returns-in-Some
returns-in-Some c = (is_there c.args.log.now.receipts c.in-Some.held.now c.args.write c.eq.result c.in-Some.ensures.held.0 c.eq.ensures c.if-eq.true, refl)

pub returns : goal.returns
returns c =
    (is_another c.args.log.now.receipts c.in-Some.held.now c.args.write c.eq.result c.in-Some.ensures.held.0 (c.in-Some.ensures.held.1 ∙ c.wid.ensures) c.eq.ensures c.if-eq.false, refl)
