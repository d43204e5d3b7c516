use Rattle.std.proofs.Common.{◌∙◌, ℕ, sym, subst}
use Rattle.std.specs.Io.KnownBytes.{IsAtEnd}
use Rattle.bayou_net.specs.Halting.{halting}
use Rattle.bayou_net.specs.Lent.{desk_steps}
use Rattle.bayou_net.specs.Serving.{ServeEnds}
use Rattle.bayou_net.proofs.halting.serve_with_leave.Goals as goal

pub returns-clause-serves : goal.returns-clause-serves
returns-clause-serves g c =
    let (read, consumed, ends) = c.serve_on-answer.ensures.serves in (
      read,
      consumed,
      subst (λ (paid : ℕ). ServeEnds (halting (desk_steps g.L.Desks.begun)) c.args.desk paid read (g.W.Write.contents c.args.channel.now.writer) (g.W.Write.contents c.serve_on-answer.new.channel.writer)
          (IsAtEnd (g.R.Read.remaining c.serve_on-answer.new.channel.reader)) c.serve_on-answer.result)
          (sym c.into_served-at_desk.ensures ∙ sym c.at_desk.view_is) ends,
    )
