use Rattle.std.proofs.Common.{◌∙◌, subst}
use Rattle.bayou_server.specs.Writes.{Writes}
use Rattle.bayou_world.specs.Inner.WorldSessions.{IsAnswered, accepted_as, accepted_of}
use Rattle.bayou_world.proofs.Charging.{wrote_spends}
use Rattle.bayou_world.proofs.world_session.WorldSession.ask.Goals as goal

pub returns-clause-answer : goal.returns-clause-answer
returns-clause-answer c =
    subst (λ need. Writes c.args.server.now.core c.args.tag need c.args.program.now c.write-answer.result c.write-answer.new.self.core) c.need_write-need.ensures.value c.write-answer.ensures.writes

pub returns-clause-answered : goal.returns-clause-answered
returns-clause-answered c =
    let self = c.args.self.now in
    subst (λ n. IsAnswered self n (accepted_as c.write-answer.result) (accepted_of c.write-answer.result) c.answered.new.self) c.id-id.ensures.value
    (subst (λ what. IsAnswered self c.id-id.result.index what (accepted_of c.write-answer.result) c.answered.new.self) c.what_accepted-what.ensures
    (subst (λ accepted. IsAnswered self c.id-id.result.index c.what_accepted-what.result accepted c.answered.new.self) c.accepted_in-accepted.ensures c.answered.ensures))

pub returns-clause-spends : goal.returns-clause-spends
returns-clause-spends c = wrote_spends c.write-answer.result _ _ c.write-answer.ensures.calls c.write-answer.ensures.stores

pub returns-clause-honest : goal.returns-clause-honest
returns-clause-honest c honest =
    let write = c.write-answer.ensures in
    let memory = c.a_device_in_memory_only_tears.ensures in
    record {
      honest = c.an_honest_server_stays_honest.ensures.written _ _ _ c.write-answer.result c.args.server.now c.write-answer.new.self memory write.sound.0 write.sound.1 honest.honest write.writes write.stores (write.safe memory.modelled);
      alone = write.others ∙ honest.alone;
    }
