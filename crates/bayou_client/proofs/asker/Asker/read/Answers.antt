use Rattle.std.proofs.Common.{ℕ, List, Option, None, Err, ap, refl, subst}
use Rattle.std.specs.Io.KnownBytes.{IsAtEnd}
use Rattle.bayou_base.specs.declared.entry.What.{What}
use Rattle.bayou_client.proofs.Operated.{hears_of}
use Rattle.bayou_client.specs.Exchange.{IsGone, LinkEnds, asks_read}
use Rattle.bayou_client.specs.Operating.{Asking, IsEntered, begins_read, reading}
use Rattle.bayou_client.proofs.asker.Asker.read.Goals as goal
use Rattle.bayou_session.specs.Needs.{Told}
use Rattle.bayou_wire.specs.declared.frame.Frame.TheVariants.{Read as ReadFrame}
use Rattle.bayou_wire.specs.Stream.{spelling}

pub returns-in-Err-clause-hears : goal.returns-in-Err-clause-hears
returns-in-Err-clause-hears g c =
    let before = g.W.Write.contents c.args.link.now.channel.writer in
    let after = g.W.Write.contents c.read-told.new.self.channel.writer in
    let channel = c.read-told.new.self.channel in
    let gone = IsGone channel.read_failed channel.write_failed channel.turns_left (IsAtEnd (g.R.Read.remaining channel.reader)) in
    let old : Asking = record { session = c.self.inside.session; asked = c.self.inside.asked } in
    let new : Asking = record { session = c.begin-place.new.self; asked = None } in
    let (read, consumed, went) = c.read-told.ensures.ends in
    let ends = subst (λ (n : List ℕ). LinkEnds (asks_read n) (spelling (ReadFrame n c.args.key.now)) before after read c.args.link.now.is_closed c.read-told.new.self.is_closed gone c.read-told.result) c.need_read-need.ensures.value went in
    let of_session = subst (λ (s : Told). IsEntered s c.args.server c.what_was_read.result c.entry_of-entry.result) c.begin-place.ensures.begun c.entry_of-entry.ensures in
    let entered = subst (λ (w : Option What). IsEntered (begins_read old).session c.args.server w c.entry_of-entry.result) c.what_was_read.ensures of_session in
    rw (← c.self.view_is) (
      read,
      consumed,
      hears_of (reading old.session c.args.key.now) c.args.server old new before after read c.args.link.now.is_closed c.read-told.new.self.is_closed gone c.read-told.result (Err c.in-Err.fault) c.entry_of-entry.result
          c.in-Err.is (_, refl, ends) (ap (λ (s : Told). record { session = s; asked = None }) c.begin-place.ensures.begun) entered,
    )
