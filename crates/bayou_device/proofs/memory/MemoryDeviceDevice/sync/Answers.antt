-- One call.
use Rattle.std.proofs.Common.{◌∙◌, ap}
use Rattle.bayou_device.specs.Memory.{Memory}
use Rattle.bayou_device.proofs.Calling.{of_call}
use Rattle.bayou_device.proofs.memory.MemoryDeviceDevice.sync.Goals as goal

pub returns-then-is_some-clause-calls : goal.returns-then-is_some-clause-calls
returns-then-is_some-clause-calls g c = of_call c.args.self.now c.call.new.self c.args.self.now.bytes c.args.self.now.synced c.call.ensures.counts c.call.ensures.after

pub returns-clause-calls : goal.returns-clause-calls
returns-clause-calls g c =
    of_call c.args.self.now _ c.self.inside.bytes.items c.len-self-inside.result c.call.ensures.counts
    (ap (λ (d : Memory). record d { bytes = c.self.inside.bytes.items; synced = c.len-self-inside.result }) (c.self.view_is ∙ c.call.ensures.after))
