use Rattle.std.proofs.Common.{◌≡◌, ℕ, IfErr, subst}
use Rattle.std.specs.Io.KnownBytes.{Consumes}
use Rattle.bayou_serve.proofs.Ended.{visit_ends}
use Rattle.bayou_serve.specs.Visits.{tells_loss}
use Rattle.bayou_streams.specs.Written.{AppendsFront}
use Rattle.bayou_wire.specs.declared.frame.Frame.TheVariants.{Offer}
use Rattle.bayou_wire.specs.Stream.{spelling}
use Rattle.bayou_serve.proofs.peers.visit_over.Goals as goal

pub returns : goal.returns
returns g c =
    let (read, consumes, ends) = c.pull_from.ensures.ends in
    let rest = g.R.Read.remaining c.pull_from.new.channel.reader.stream.reader.reader in
    let after = g.W.Write.contents c.pull_from.new.channel.writer.stream in
    let offer = spelling (Offer c.offer-counts.result) in
    let of_channel = subst (λ reader. Consumes (g.R.Read.remaining reader.stream.reader.reader) rest read) c.new-channel.ensures.reader consumes in
    let of_patient = subst (λ patient. Consumes (g.R.Read.remaining patient.reader.reader) rest read) c.paced-reader.ensures of_channel in
    let of_reader = subst (λ reader. Consumes (g.R.Read.remaining reader) rest read) c.new-patient.ensures.reader.0 of_patient in
    let by_channel = subst (λ writer. AppendsFront (g.W.Write.contents writer.stream) after offer) c.new-channel.ensures.writer c.pull_from.ensures.part in
    let by_writer = subst (λ writer. AppendsFront (g.W.Write.contents writer) after offer) c.new-writer.ensures by_channel in (
      c.offer-counts.result,
      c.offer-counts.ensures,
      (after, by_writer),
      (
        rest,
        read,
        of_reader,
        visit_ends _ read _ c.pull_from.result c.outcome_of.result ends c.outcome_of.ensures.whole c.outcome_of.ensures.some c.outcome_of.ensures.none
            (subst (λ (server : ℕ). IfErr c.pull_from.result (λ stopped. c.outcome_of.result.has_lost ≡ tells_loss server stopped)) c.id.ensures.1 c.outcome_of.ensures.lost),
      ),
    )
