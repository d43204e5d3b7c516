use Rattle.std.proofs.Common.{Some, subst, sym}
use Rattle.bayou_lang.specs.declared.program.Program.{Program}
use Rattle.bayou_server.specs.Writes.{Writes}
use Rattle.bayou_session.specs.Needs.{HasCounts, Told, write_need}
use Rattle.bayou_world.specs.declared.world_session.Asked.{Asked}
use Rattle.bayou_world.specs.Inner.WorldSessions.{Begins, accepted_as, accepted_of}
use Rattle.bayou_world.proofs.world_session.WorldSession.write.Goals as goal

pub returns : goal.returns
returns c =
    let self = c.args.self.now in
    let core = c.args.server.now.core in
    let begun = c.ask-tag.ensures.begun in
    let asked : Asked = record { server = c.id.result; program = c.in_ok-copy.field-0 } in (
      asked,
      c.id.ensures.value,
      c.in_ok-copy.ensures,
      record {
        tag = c.ask-tag.result;
        tag_is = c.ask-tag.ensures.tag;
        counts = subst HasCounts begun c.ask.ensures.counts;
        writes = subst (λ (p : Program). Writes core c.ask-tag.result (write_need self.session) p c.ask.result c.ask.new.server.core) (sym c.in_ok-copy.ensures)
            (subst (λ (t : Told). Writes core c.ask-tag.result (write_need t) c.args.program c.ask.result c.ask.new.server.core) begun c.ask.ensures.answer);
        begun = subst (λ (t : Told). Begins self t (Some asked) core.id (accepted_as c.ask.result) (accepted_of c.ask.result) c.ask.new.self) begun c.ask.ensures.answered;
        honest = c.ask.ensures.honest;
        spends = c.ask.ensures.spends;
      },
    )
