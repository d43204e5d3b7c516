use Rattle.std.proofs.Common.{ap, false, length, refl, subst, sym, Err}
use Rattle.bayou_device.specs.Memory.{Memory}
use Rattle.bayou_device.specs.MemoryDevice.{memory_device}
use Rattle.bayou_server.specs.Server.{Core}
use Rattle.bayou_server.specs.Starts.{FailsToStart, Starts, StartsOn}
use Rattle.bayou_world.specs.Inner.WorldServers.{IsLeftOf, core_of}
use Rattle.bayou_world.specs.declared.reply.Reply.TheVariants as replies
use Rattle.bayou_world.specs.Faults.{tells_fault}
use Rattle.bayou_world.specs.Inner.Charges.{Spends}
use Rattle.bayou_world.proofs.Charging.{start_spends, steady}
use Rattle.bayou_world.proofs.Restarting.{of_role, same_parts}
use Rattle.bayou_world.proofs.world_server.WorldServer.restart.Goals as goal

pub returns-in-Ok-clause-starts : goal.returns-in-Ok-clause-starts
returns-in-Ok-clause-starts c kept =
    let old = core_of c.args.self in
    let left = c.stop-device.ensures.honest kept in
    let server = c.in-Ok.server in
    let starts = of_role (λ id count limit. Starts id count limit server.core) c.role-role.result old c.role-role.ensures.id c.role-role.ensures.count c.role-role.ensures.limit c.in-Ok.ensures.starts in
    let opens = subst (λ (d : Memory). StartsOn memory_device d server c.in-Ok.field-0-1) c.stop-device.ensures.device c.in-Ok.ensures.opens in
    let law = c.a_start_on_an_honest_device_is_honest.ensures in (
      (refl, ap length c.receipts-holds.ensures.value, starts.is, starts.sound, law.records old _ _ server tt left.sound left.honest starts opens),
      record { honest = law.whole old.id old.count old.limit _ _ server tt starts opens; alone = c.in-Ok.ensures.others },
    )

pub returns-in-Err-clause-starts : goal.returns-in-Err-clause-starts
returns-in-Err-clause-starts c kept =
    let old = core_of c.args.self in
    let left = c.stop-device.ensures.honest kept in
    let refused = c.in-Err.field-0 in
    let parts = same_parts c.role-role.result.id.index c.role-role.result.count c.role-role.result.limit c.stop-device.result.last old
    c.role-role.ensures.id c.role-role.ensures.count c.role-role.ensures.limit c.stop-device.ensures.last in
    let fails = of_role (λ id count limit. FailsToStart memory_device id count limit c.stop-device.result.device refused.device refused.fault)
    c.role-role.result old c.role-role.ensures.id c.role-role.ensures.count c.role-role.ensures.limit c.in-Err.ensures.opens in
    let honest = subst (λ (d : Memory). IsLeftOf old d) (sym c.stop-device.ensures.device) left in
    let law = c.a_start_on_an_honest_device_is_honest.ensures in (
      (refl, law.refusal old _ _ refused.fault tt honest.sound honest.honest fails, parts),
      subst (λ (core : Core). IsLeftOf core refused.device) (sym parts)
          (record { sound = honest.sound; honest = law.left old _ _ refused.fault c.a_device_in_memory_only_tears.ensures honest.sound honest.honest fails (c.in-Err.ensures.safe tt) }),
    )

pub returns-in-Ok-clause-spends : goal.returns-in-Ok-clause-spends
returns-in-Ok-clause-spends c =
    subst (λ (d : Memory). Spends false false d c.in-Ok.server.device) c.stop-device.ensures.device
    (steady 4 _ _ c.in-Ok.ensures.calls.most c.in-Ok.ensures.opens.opened.counts)

pub returns-in-Err-clause-spends : goal.returns-in-Err-clause-spends
returns-in-Err-clause-spends c =
    subst (λ (d : Memory). Spends (tells_fault (replies.Restarted (Err c.in-Err.field-0.fault))) false d c.in-Err.field-0.device) c.stop-device.ensures.device
    (start_spends _ _ _ _ _ c.in-Err.field-0.fault c.in-Err.ensures.calls.most c.in-Err.ensures.opens)
