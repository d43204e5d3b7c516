use Rattle.std.proofs.Common.{◌∙◌, refl}
use Rattle.bayou_server.proofs.SameWrite.{is_another, is_held}
use Rattle.bayou_server.proofs.taking.decided.Goals as goal

pub returns-then-eq : goal.returns-then-eq
returns-then-eq c = (is_held c.args.holding.now.log.receipts c.in-Some.held.now c.args.given.now c.eq.result c.in-Some.ensures.held.0 c.eq.ensures c.if-eq.true, refl)

pub returns-in-Some : goal.returns-in-Some
returns-in-Some c =
    (is_another c.args.holding.now.log.receipts c.in-Some.held.now c.args.given.now c.eq.result c.in-Some.ensures.held.0 (c.in-Some.ensures.held.1 ∙ c.wid.ensures) c.eq.ensures c.if-eq.false, refl)
