use Rattle.std.proofs.Common.{ℕ, List, Err, subst}
use Rattle.std.specs.Prelude.{replicate}
use Rattle.std.specs.Io.KnownBytes.{IsAtEnd}
use Rattle.bayou_base.specs.declared.limits.TheConstants.{SERVERS}
use Rattle.bayou_client.proofs.Ending.{tells_no_vector}
use Rattle.bayou_client.specs.Exchange.{IsGone, LinkEnds, asks_read}
use Rattle.bayou_client.proofs.link.Link.vector.Goals as goal
use Rattle.bayou_wire.specs.declared.frame.Frame.TheVariants.{Read as ReadFrame}
use Rattle.bayou_wire.specs.Stream.{spelling}

pub returns-in-Err-clause-ends : goal.returns-in-Err-clause-ends
returns-in-Err-clause-ends g c =
    let before = g.W.Write.contents c.args.self.now.channel.writer in
    let after = g.W.Write.contents c.look.new.self.channel.writer in
    let channel = c.look.new.self.channel in
    let was = c.args.self.now.is_closed in
    let is = c.look.new.self.is_closed in
    let gone = IsGone channel.read_failed channel.write_failed channel.turns_left (IsAtEnd (g.R.Read.remaining channel.reader)) in
    let fault = c.in-Err.fault in
    let (read, consumed, looked) = c.in-Err.ensures.ends in
    let ends = subst (λ (key : List ℕ). LinkEnds (asks_read (replicate SERVERS 0)) (spelling (ReadFrame (replicate SERVERS 0) key)) before after read was is gone (Err fault)) c.in-Ok.ensures.1 looked in
    (read, consumed, tells_no_vector _ before after read was is gone fault ends)
