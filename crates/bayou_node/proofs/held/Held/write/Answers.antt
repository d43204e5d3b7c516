use Rattle.std.proofs.Common.{◌≤◌, ℕ, Ok, subst, arith}
use Rattle.bayou_node.proofs.Keeps.{writing_keeps}
use Rattle.bayou_node.proofs.Written.{written_so}
use Rattle.bayou_node.specs.Answers.{IsWritten}
use Rattle.bayou_node.specs.Books.{Booked, StillHolds}
use Rattle.bayou_server.specs.Server.{own_count}
use Rattle.bayou_node.proofs.held.Held.write.Goals as goal

pub returns-in_default-clause-written : goal.returns-in_default-clause-written
returns-in_default-clause-written g c =
    let few : c.desk.inside.share.amount ≤ own_count c.self.inside.server.core = omega (arith, c.self.invariant.0.own, c.audit.ensures.bound, c.audit.ensures.total, c.audit.ensures.amount) in
    let so = subst (λ (server : ℕ). IsWritten server c.args.need.now c.desk.inside.share.amount c.in_ok-written.written) c.self.invariant.0.is.whose
    (written_so c.self.inside.server.core c.args.tag c.args.need.now c.args.program.now (Ok c.in_ok-written.written) c.write.new.self.core c.desk.inside.share.amount c.in_ok-written.ensures.sound.0 few c.in_ok-written.ensures.writes) in
    rw (← c.desk.view_is) so

pub returns-clause-keeps : goal.returns-clause-keeps
returns-clause-keeps g c =
    subst (λ (held : Booked g.row.D.Denot). StillHolds held.server.core c.write.new.self.core) c.self.view_is
    (writing_keeps c.self.inside.server.core c.args.tag c.args.need.now c.args.program.now c.write.result c.write.new.self.core c.write.ensures.writes)

pub returns-in_err-written-clause-keeps : goal.returns-in_err-written-clause-keeps
returns-in_err-written-clause-keeps g c =
    subst (λ (held : Booked g.row.D.Denot). StillHolds held.server.core c.write.new.self.core) c.self.view_is
    (writing_keeps c.self.inside.server.core c.args.tag c.args.need.now c.args.program.now c.write.result c.write.new.self.core c.write.ensures.writes)
