use Rattle.bayou_journal.proofs.Crashing.{memory_tears}
use Rattle.bayou_journal.proofs.laws.a_device_in_memory_only_tears.Goals as goal

pub returns : goal.returns
returns c = memory_tears
