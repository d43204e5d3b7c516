use Rattle.std.proofs.Common.{rules}
use Rattle.bayou_device.proofs.memory.MemoryDevice.add_whole.Goals as goal

pub returns-clause-ok : goal.returns-clause-ok
returns-clause-ok g c = search rules
