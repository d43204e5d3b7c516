use Rattle.std.proofs.Common.{◌≡◌, ◌<◌, subst}
use Rattle.bayou_peer.proofs.losing.tells_loss.Goals as goal

pub returns-in-Item-clause-lost : goal.returns-in-Item-clause-lost
returns-in-Item-clause-lost c is =
    (c.in-Item.write, subst (λ wid. (wid.origin.index ≡ c.args.id.index) × (c.args.own < wid.seq)) c.wid.ensures (c.is_beyond.ensures.0 c.if-is_beyond.true), c.in-Item.is)
