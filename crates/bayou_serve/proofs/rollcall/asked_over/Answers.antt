use Rattle.std.proofs.Common.{subst}
use Rattle.std.specs.Io.KnownBytes.{Consumes}
use Rattle.bayou_peer.specs.Losing.{all_but}
use Rattle.bayou_serve.proofs.Losing.{asks_for_own}
use Rattle.bayou_streams.specs.Written.{AppendsFront}
use Rattle.bayou_wire.specs.declared.frame.Frame.TheVariants.{Offer}
use Rattle.bayou_wire.specs.Stream.{spelling}
use Rattle.bayou_serve.proofs.rollcall.asked_over.Goals as goal

pub returns : goal.returns
returns g c =
    let (read, consumes, stops, looks) = c.has_lost.ensures.looks in
    let rest = g.R.Read.remaining c.has_lost.new.channel.reader.reader.reader in
    let after = g.W.Write.contents c.has_lost.new.channel.writer in
    let offer = spelling (Offer (all_but c.id-id.result.index c.get-own.result)) in
    let of_channel = subst (λ reader. Consumes (g.R.Read.remaining reader.reader.reader) rest read) c.new-channel.ensures.reader consumes in
    let of_reader = subst (λ reader. Consumes (g.R.Read.remaining reader) rest read) c.new-reader.ensures.reader.0 of_channel in
    let by_writer = subst (λ writer. AppendsFront (g.W.Write.contents writer) after offer) c.new-channel.ensures.writer c.has_lost.ensures.part in
    asks_for_own _ c.offer.result _ _ _ rest _ after read _ c.offer.ensures c.id-id.ensures.1 c.get-own.ensures.value by_writer of_reader looks
