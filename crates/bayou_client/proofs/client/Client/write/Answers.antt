use Rattle.std.proofs.Common.{subst}
use Rattle.std.specs.Io.KnownBytes.{IsAtEnd}
use Rattle.bayou_audit.specs.Totals.{Shared}
use Rattle.bayou_client.proofs.Operated.{hears_writing, operates}
use Rattle.bayou_client.specs.Exchange.{IsGone}
use Rattle.bayou_client.specs.Inner.Spending.{Spends}
use Rattle.bayou_client.specs.Operating.{Sharing, writing}
use Rattle.bayou_client.proofs.client.Client.write.Goals as goal

pub returns-clause-operates : goal.returns-clause-operates
returns-clause-operates g c =
    let before = g.W.Write.contents c.args.link.now.channel.writer in
    let after = g.W.Write.contents c.send-told.new.link.channel.writer in
    let channel = c.send-told.new.link.channel in
    let was = c.args.link.now.is_closed in
    let is = c.send-told.new.link.is_closed in
    let gone = IsGone channel.read_failed channel.write_failed channel.turns_left (IsAtEnd (g.R.Read.remaining channel.reader)) in
    let asker = c.self.inside.asker in
    let new = c.send-told.new.self in
    let old : Sharing = record { session = asker.session; share = c.self.inside.share; asked = asker.asked } in
    let heard = c.send-told.result in
    let (asked, same, read, consumed, hears) = c.send-told.ensures.hears in
    let spent = subst (λ (s : Shared). Spends heard.entry s c.spend.new.share) c.in-Ok.ensures.1 c.spend.ensures in (
      read,
      consumed,
      rw (← c.self.view_is, c.told_as.ensures) (operates (writing asker.session c.args.server c.args.program) c.args.server old new c.spend.new.share before after read was is gone heard
          (hears_writing asker c.args.server c.args.program c.ask.new.self asked new before after read was is gone heard c.ask.ensures same hears) spent),
    )
