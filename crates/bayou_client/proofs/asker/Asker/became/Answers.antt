use Rattle.std.proofs.Common.{ℕ, List, Option, None, Err, ap, subst, ◌∙◌, ◌≡◌}
use Rattle.std.specs.Io.KnownBytes.{IsAtEnd}
use Rattle.bayou_base.specs.declared.entry.What.{What}
use Rattle.bayou_base.specs.Vector.{joined}
use Rattle.bayou_client.proofs.Looked.{hears_looking}
use Rattle.bayou_client.specs.Exchange.{IsGone}
use Rattle.bayou_client.specs.Lookups.{LookupEnds, asks_fate, asking_after}
use Rattle.bayou_client.specs.Operating.{Asking, IsEntered, begins_read}
use Rattle.bayou_client.proofs.asker.Asker.became.Goals as goal
use Rattle.bayou_session.specs.Needs.{Told, read_need}

pub returns-in-Err-clause-hears : goal.returns-in-Err-clause-hears
returns-in-Err-clause-hears g c =
    let before = g.W.Write.contents c.args.link.now.channel.writer in
    let after = g.W.Write.contents c.became-told.new.self.channel.writer in
    let channel = c.became-told.new.self.channel in
    let gone = IsGone channel.read_failed channel.write_failed channel.turns_left (IsAtEnd (g.R.Read.remaining channel.reader)) in
    let old : Asking = record { session = c.self.inside.session; asked = c.self.inside.asked } in
    let new : Asking = record { session = c.begin-place.new.self; asked = None } in
    let asked = c.args.asked.now in
    let (read, consumed, went) = c.became-told.ensures.ends in
    let needed : c.join-need.result ≡ joined (read_need old.session) asked.need = c.join-need.ensures.counts ∙ ap (λ n. joined n asked.need) c.need_read.ensures.value in
    let ends = subst (λ (n : List ℕ). LookupEnds (asks_fate (record asked { need = n })) before after read c.args.link.now.is_closed c.became-told.new.self.is_closed gone c.became-told.result) needed went in
    let of_session = subst (λ (s : Told). IsEntered s c.args.server c.what_was_asked.result c.entry_of-entry.result) c.begin-place.ensures.begun c.entry_of-entry.ensures in
    let entered = subst (λ (w : Option What). IsEntered (begins_read old).session c.args.server w c.entry_of-entry.result) c.what_was_asked.ensures of_session in
    rw (← c.self.view_is) (
      read,
      consumed,
      hears_looking (asking_after old.session asked) c.args.server old new before after read c.args.link.now.is_closed c.became-told.new.self.is_closed gone c.became-told.result (Err c.in-Err.fault) c.entry_of-entry.result
          c.in-Err.is ends (ap (λ (s : Told). record { session = s; asked = None }) c.begin-place.ensures.begun) entered,
    )
