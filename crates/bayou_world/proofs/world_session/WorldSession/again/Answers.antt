use Rattle.std.proofs.Common.{Option, subst}
use Rattle.bayou_lang.specs.declared.program.Program.{Program}
use Rattle.bayou_server.specs.Writes.{Writes}
use Rattle.bayou_session.specs.Needs.{HasCounts, Told, asks_again, write_need}
use Rattle.bayou_world.specs.declared.world_session.Asked.{Asked}
use Rattle.bayou_world.specs.Inner.WorldSessions.{Begins, accepted_as, accepted_of}
use Rattle.bayou_world.proofs.world_session.WorldSession.again.Goals as goal

pub returns : goal.returns
returns c =
    let self = c.args.self.now in
    let core = c.args.server.now.core in
    let asked = c.in-Some.asked in
    let again = c.in-Some-again.ensures in
    let begun = again.3 in (
      asked,
      again.0,
      c.in-Some.is,
      again.1,
      record {
        tag = c.in-Some-again.tag;
        tag_is = again.2;
        counts = subst HasCounts begun c.ask.ensures.counts;
        writes = subst (λ (p : Program). Writes core c.in-Some-again.tag (write_need self.session) p c.ask.result c.ask.new.server.core) c.in_ok-program.ensures
            (subst (λ (t : Told). Writes core c.in-Some-again.tag (write_need t) c.in_ok-program.program c.ask.result c.ask.new.server.core) begun c.ask.ensures.answer);
        begun = subst (λ (a : Option Asked). Begins self (asks_again self.session) a core.id (accepted_as c.ask.result) (accepted_of c.ask.result) c.ask.new.self) c.in-Some.is
            (subst (λ (t : Told). Begins self t self.asked core.id (accepted_as c.ask.result) (accepted_of c.ask.result) c.ask.new.self) begun c.ask.ensures.answered);
        honest = c.ask.ensures.honest;
        spends = c.ask.ensures.spends;
      },
    )
