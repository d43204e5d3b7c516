use Rattle.std.proofs.Common.{◌∙◌}
use Rattle.bayou_world.proofs.Charging.{took_spends}
use Rattle.bayou_world.proofs.world_server.take_write.Goals as goal

pub returns-clause-spends : goal.returns-clause-spends
returns-clause-spends c = took_spends c.take.result _ _ c.take.ensures.calls c.take.ensures.stores

pub returns-clause-honest : goal.returns-clause-honest
returns-clause-honest c honest =
    let memory = c.a_device_in_memory_only_tears.ensures in
    let take = c.take.ensures in
    record {
      honest = c.an_honest_server_stays_honest.ensures.taken _ c.take.result c.args.server.now c.take.new.self memory take.sound.0 take.sound.1 honest.honest take.takes take.stores (take.safe memory.modelled);
      alone = take.others ∙ honest.alone;
    }
