use Rattle.std.proofs.Common.{◌≡◌, refl, subst}
use Rattle.bayou_device.specs.Memory.{Memory}
use Rattle.bayou_machine.specs.ScriptServer.{IsRefusedStart}
use Rattle.bayou_machine.proofs.script_server.ScriptServer.restart.Goals as goal

pub returns-in-Err : goal.returns-in-Err
returns-in-Err c = (
  _,
  refl,
  c.stop-device.ensures.last,
  subst (λ (d : Memory). IsRefusedStart c.args.servers.count c.args.servers.limit c.args.id.index d c.in-Err.field-0.device c.in-Err.field-0.fault) c.stop-device.ensures.device
      (record { fails = c.in-Err.ensures.opens; safe = c.in-Err.ensures.safe tt; calls = c.in-Err.ensures.calls }),
)
