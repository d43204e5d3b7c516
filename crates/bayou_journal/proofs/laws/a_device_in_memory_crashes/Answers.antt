use Rattle.bayou_journal.proofs.Crashing.{memory_crashes}
use Rattle.bayou_journal.proofs.laws.a_device_in_memory_crashes.Goals as goal

pub returns : goal.returns
returns c = memory_crashes
