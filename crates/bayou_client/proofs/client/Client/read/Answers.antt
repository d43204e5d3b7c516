use Rattle.std.proofs.Common.{subst}
use Rattle.std.specs.Io.KnownBytes.{IsAtEnd}
use Rattle.bayou_audit.specs.Totals.{Shared}
use Rattle.bayou_client.proofs.Operated.{operates}
use Rattle.bayou_client.specs.Exchange.{IsGone}
use Rattle.bayou_client.specs.Inner.Spending.{Spends}
use Rattle.bayou_client.specs.Operating.{Sharing, reading}
use Rattle.bayou_client.proofs.client.Client.read.Goals as goal

pub returns-clause-operates : goal.returns-clause-operates
returns-clause-operates g c =
    let before = g.W.Write.contents c.args.link.now.channel.writer in
    let after = g.W.Write.contents c.read-told.new.link.channel.writer in
    let channel = c.read-told.new.link.channel in
    let gone = IsGone channel.read_failed channel.write_failed channel.turns_left (IsAtEnd (g.R.Read.remaining channel.reader)) in
    let asker = c.self.inside.asker in
    let old : Sharing = record { session = asker.session; share = c.self.inside.share; asked = asker.asked } in
    let heard = c.read-told.result in
    let (read, consumed, hears) = c.read-told.ensures.hears in
    let spent = subst (λ (s : Shared). Spends heard.entry s c.spend.new.share) c.in-Ok.ensures.1 c.spend.ensures in (
      read,
      consumed,
      rw (← c.self.view_is, c.told_as.ensures) (operates (reading asker.session c.args.key.now) c.args.server old c.read-told.new.self c.spend.new.share before after read c.args.link.now.is_closed c.read-told.new.link.is_closed gone heard
          hears spent),
    )
