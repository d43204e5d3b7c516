use Rattle.bayou_server.specs.Laws.Several.{alone_after, reopens_one}
use Rattle.bayou_world.proofs.Charging.{reopened_spends}
use Rattle.bayou_world.proofs.world_server.reopen_server.Goals as goal

pub returns-clause-reopens : goal.returns-clause-reopens
returns-clause-reopens c = λ was. reopens_one c.args.server.now.core c.args.server.now.taking c.reopen.result c.reopen.new.self.core c.reopen.ensures.reopens was.alone

pub returns-clause-answer : goal.returns-clause-answer
returns-clause-answer c = λ was.
    c.an_honest_server_is_reopened_honestly.ensures.answer c.reopen.result c.args.server.now c.reopen.new.self c.a_device_in_memory_only_tears.ensures.modelled c.reopen.ensures.sound.0 was.honest
    (returns-clause-reopens c was) c.reopen.ensures.opens

pub returns-clause-honest : goal.returns-clause-honest
returns-clause-honest c = λ was. record {
  honest = c.an_honest_server_is_reopened_honestly.ensures.left c.reopen.result c.args.server.now c.reopen.new.self c.a_device_in_memory_only_tears.ensures c.reopen.ensures.sound.0 was.honest
      (returns-clause-reopens c was) c.reopen.ensures.opens (c.reopen.ensures.safe tt);
  alone = alone_after c.reopen.result c.args.server.now.taking c.reopen.new.self.taking c.reopen.ensures.others was.alone;
}

pub returns-clause-spends : goal.returns-clause-spends
returns-clause-spends c = reopened_spends c.reopen.result c.args.server.now c.reopen.new.self c.reopen.ensures.calls.most c.reopen.ensures.opens
