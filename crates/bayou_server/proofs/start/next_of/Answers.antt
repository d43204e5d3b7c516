use Rattle.std.proofs.Common.{ap, inr, length, refl}
use Rattle.bayou_journal.specs.Versions.{body_in}
use Rattle.bayou_server.specs.Starts.{IsNewRecord}
use Rattle.bayou_server.proofs.Bodies.{told_some}
use Rattle.bayou_server.proofs.start.next_of.Goals as goal

pub returns-then-not-may_follow : goal.returns-then-not-may_follow
returns-then-not-may_follow c =
    let new = told_some _ (IsNewRecord c.args.id.index c.args.holding.now.tags.tags (body_in c.args.version c.args.body.now)) c.in_ok-stored.field-0 c.in-Some.stored c.in_ok-stored.ensures c.in-Some.is in
    inr (ap length c.receipts.ensures.value, (c.in-Some.stored, new, λ follows. absurd (let yes = c.may_follow.ensures.1 follows in cc)))

pub returns-then-is_full : goal.returns-then-is_full
returns-then-is_full c =
    let new = told_some _ (IsNewRecord c.args.id.index c.args.holding.now.tags.tags (body_in c.args.version c.args.body.now)) c.in_ok-stored.field-0 c.in-Some.stored c.in_ok-stored.ensures c.in-Some.is in
    inr (c.if-is_full.ensures.full.0 refl, (c.in-Some.stored, new, c.if-not-may_follow.ensures.0 refl))
