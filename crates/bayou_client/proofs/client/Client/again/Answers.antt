use Rattle.std.proofs.Common.{◌∙◌, [], ap, refl, subst}
use Rattle.std.proofs.KnownBytes.{Consumes-nil}
use Rattle.std.specs.Io.KnownBytes.{IsAtEnd}
use Rattle.bayou_audit.specs.Totals.{Shared}
use Rattle.bayou_client.proofs.Operated.{hears_again, operates, some_of}
use Rattle.bayou_client.specs.Exchange.{IsGone}
use Rattle.bayou_client.specs.Inner.Spending.{Spends}
use Rattle.bayou_client.specs.Operating.{Sharing, asking_again}
use Rattle.bayou_client.proofs.client.Client.again.Goals as goal

pub returns-in_default-clause-operates : goal.returns-in_default-clause-operates
returns-in_default-clause-operates g c =
    let (asked, is) = some_of _ c.requires.asked in
    let asker = c.self.inside.asker in
    let same = ap (λ (share : Shared). record { session = asker.session; share = share; asked = asker.asked }) c.in_default.ensures ∙ c.self.view_is in
    (asked, is, [], Consumes-nil _, (same, refl, refl, refl))

pub returns-clause-operates : goal.returns-clause-operates
returns-clause-operates g c =
    let before = g.W.Write.contents c.args.link.now.channel.writer in
    let after = g.W.Write.contents c.send-told.new.link.channel.writer in
    let channel = c.send-told.new.link.channel in
    let was = c.args.link.now.is_closed in
    let is = c.send-told.new.link.is_closed in
    let gone = IsGone channel.read_failed channel.write_failed channel.turns_left (IsAtEnd (g.R.Read.remaining channel.reader)) in
    let asker = c.self.inside.asker in
    let new = c.send-told.new.self in
    let old : Sharing = record { session = asker.session; share = c.self.inside.share; asked = asker.asked } in
    let heard = c.send-told.result in
    let (asked, is_asked, read, consumed, heard_so) = c.send-told.ensures.hears in
    let (same, hears) = hears_again asker c.ask_again.new.self asked new before after read was is gone heard c.ask_again.ensures is_asked heard_so in
    let spent = subst (λ (s : Shared). Spends heard.entry s c.spend.new.share) c.in-Ok.ensures.1 c.spend.ensures in
    rw (← c.self.view_is, c.told_as.ensures) (
      asked,
      same,
      read,
      consumed,
      operates (asking_again asker.session asked) asked.server old new c.spend.new.share before after read was is gone heard hears spent,
    )
