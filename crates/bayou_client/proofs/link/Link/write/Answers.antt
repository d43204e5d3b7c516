use Rattle.std.proofs.Common.{refl}
use Rattle.bayou_client.proofs.Ending.{judged}
use Rattle.bayou_client.specs.Exchange.{asks_write}
use Rattle.bayou_client.proofs.link.Link.write.Goals as goal

pub returns-clause-ends : goal.returns-clause-ends
returns-clause-ends g c =
    let (read, consumed, went) = c.in_ok-reply.ensures.exchanges in (
      read,
      consumed,
      judged (asks_write c.args.need.now c.args.server) _ _ _ read _ c.exchange.new.link.is_closed _ c.is_answered.result _ c.in_ok-reply.reply c.accepted_of-told.result went (c.accepted_of-told.ensures (went.2.begins.few refl)) c.is_answered.ensures refl,
    )
