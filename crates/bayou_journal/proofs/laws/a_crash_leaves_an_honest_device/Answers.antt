use Rattle.bayou_journal.proofs.Crashing.{crashed_honestly}
use Rattle.bayou_journal.proofs.laws.a_crash_leaves_an_honest_device.Goals as goal

pub returns : goal.returns
returns g c = crashed_honestly g.D.Device
