-- A cut that fails leaves all that was kept; and each is one call.
use Rattle.std.proofs.Common.{drop, sym, ◌∙◌, ap, take-append-drop}
use Rattle.bayou_device.specs.Memory.{Memory, kept_bytes}
use Rattle.bayou_device.proofs.Calling.{of_call}
use Rattle.bayou_device.proofs.memory.MemoryDeviceDevice.cut.Goals as goal

pub returns-then-is_some-clause-calls : goal.returns-then-is_some-clause-calls
returns-then-is_some-clause-calls g c = of_call c.args.self.now c.call.new.self c.args.self.now.bytes c.args.self.now.synced c.call.ensures.counts c.call.ensures.after

pub returns-clause-calls : goal.returns-clause-calls
returns-clause-calls g c =
    of_call c.args.self.now _ c.truncate.new.self.items c.min-self-inside.result c.call.ensures.counts
    (ap (λ (d : Memory). record d { bytes = c.truncate.new.self.items; synced = c.min-self-inside.result }) (c.self.view_is ∙ c.call.ensures.after))

pub returns-then-is_some-clause-front : goal.returns-then-is_some-clause-front
returns-then-is_some-clause-front g c =
    let same = c.call.ensures.after in
    (drop c.args.len (kept_bytes c.args.self.now), ap kept_bytes same ∙ sym (take-append-drop c.args.len (kept_bytes c.args.self.now)))
