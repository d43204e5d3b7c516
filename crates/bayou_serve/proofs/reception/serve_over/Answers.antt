use Rattle.std.proofs.Common.{subst}
use Rattle.std.specs.Io.KnownBytes.{Consumes, IsAtEnd}
use Rattle.bayou_net.specs.Halting.{halting}
use Rattle.bayou_net.specs.Lent.{desk_steps}
use Rattle.bayou_net.specs.Serving.{ServeEnds}
use Rattle.bayou_serve.proofs.reception.serve_over.Goals as goal

pub returns-clause-served : goal.returns-clause-served
returns-clause-served g c =
    let (read, consumes, ends) = c.serve_with_leave-answer.ensures.serves in
    let rest = g.R.Read.remaining c.serve_with_leave-answer.new.channel.reader.reader.reader.reader in
    let after = g.W.Write.contents c.serve_with_leave-answer.new.channel.writer.writer in
    let of_reader = subst (λ reader. Consumes (g.R.Read.remaining reader) rest read) c.channel_over-channel.ensures.reader consumes in
    let by_writer = subst (λ writer. ServeEnds (halting (desk_steps g.L.Desks.begun)) c.args.desk c.serve_with_leave-answer.result.1 read (g.W.Write.contents writer) after (IsAtEnd rest) c.serve_with_leave-answer.result.0) c.channel_over-channel.ensures.writer ends in
    (c.serve_with_leave-answer.result.0, rest, after, read, of_reader, by_writer)
