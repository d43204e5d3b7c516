use Rattle.std.proofs.Common.{◌≡◌, ◌∙◌, Option, Some, Ok, Err, ap, refl, subst, sym}
use Rattle.std.specs.Io.KnownBytes.{IsAtEnd}
use Rattle.bayou_base.specs.declared.entry.What.{What}
use Rattle.bayou_client.proofs.Operated.{hears_of}
use Rattle.bayou_client.specs.declared.asker.Asked.{Asked}
use Rattle.bayou_client.specs.Exchange.{IsGone}
use Rattle.bayou_client.specs.Operating.{Asking, IsEntered, sending}
use Rattle.bayou_client.proofs.asker.Asker.send.Goals as goal
use Rattle.bayou_session.specs.Needs.{Told, after_write}

pub returns-in-Ok-clause-hears : goal.returns-in-Ok-clause-hears
returns-in-Ok-clause-hears g c =
    let before = g.W.Write.contents c.args.link.now.channel.writer in
    let after = g.W.Write.contents c.told_of-told.new.link.channel.writer in
    let channel = c.told_of-told.new.link.channel in
    let gone = IsGone channel.read_failed channel.write_failed channel.turns_left (IsAtEnd (g.R.Read.remaining channel.reader)) in
    let session = c.self.inside.session in
    let asked = c.in-Some-take.asked in
    let accepted = c.in-Ok.accepted in
    let old : Asking = record { session = session; asked = c.self.inside.asked } in
    let new : Asking = record { session = c.wrote.new.self; asked = c.take.new.self } in
    let is : c.self.inside.asked ≡ Some asked = sym c.take.ensures.value ∙ c.in-Some-take.is in
    let (number, first, tagged) = c.in-Some.ensures in
    let (read, consumed, ends) = c.told_of-told.ensures.ends in
    let becomes = ap (λ (s : Told). record { session = s; asked = c.take.new.self }) c.wrote.ensures.told ∙ ap (λ (a : Option Asked). record { session = after_write session accepted; asked = a }) c.take.ensures.after in
    let entered = subst (λ (w : Option What). IsEntered session asked.server w c.entry_of-entry.result) c.what_was_written.ensures c.entry_of-entry.ensures in
    rw (← c.self.view_is) (
      asked,
      is,
      read,
      consumed,
      hears_of (sending session asked) asked.server old new before after read c.args.link.now.is_closed c.told_of-told.new.link.is_closed gone c.told_of-told.result.0 (Ok accepted) c.entry_of-entry.result
          c.in-Ok.is (_, (number, c.in-Some.tag, first, tagged, refl), ends) becomes entered,
    )

pub returns-in-Err-clause-hears : goal.returns-in-Err-clause-hears
returns-in-Err-clause-hears g c =
    let before = g.W.Write.contents c.args.link.now.channel.writer in
    let after = g.W.Write.contents c.told_of-told.new.link.channel.writer in
    let channel = c.told_of-told.new.link.channel in
    let gone = IsGone channel.read_failed channel.write_failed channel.turns_left (IsAtEnd (g.R.Read.remaining channel.reader)) in
    let session = c.self.inside.session in
    let asked = c.in-Some-take.asked in
    let old : Asking = record { session = session; asked = c.self.inside.asked } in
    let new : Asking = record { session = session; asked = Some c.told_of-told.result.1 } in
    let is : c.self.inside.asked ≡ Some asked = sym c.take.ensures.value ∙ c.in-Some-take.is in
    let (number, first, tagged) = c.in-Some.ensures in
    let (read, consumed, ends) = c.told_of-told.ensures.ends in
    let becomes = ap (λ (a : Asked). record { session = session; asked = Some a }) c.told_of-told.ensures.asked ∙ ap (λ (o : Option Asked). record { session = session; asked = o }) (sym is) in
    let entered = subst (λ (w : Option What). IsEntered session asked.server w c.entry_of-entry.result) c.what_was_written.ensures c.entry_of-entry.ensures in
    rw (← c.self.view_is) (
      asked,
      is,
      read,
      consumed,
      hears_of (sending session asked) asked.server old new before after read c.args.link.now.is_closed c.told_of-told.new.link.is_closed gone c.told_of-told.result.0 (Err c.in-Err.fault) c.entry_of-entry.result
          c.in-Err.is (_, (number, c.in-Some.tag, first, tagged, refl), ends) becomes entered,
    )
