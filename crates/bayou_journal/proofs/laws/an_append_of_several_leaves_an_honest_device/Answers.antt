use Rattle.bayou_journal.proofs.Several.{all_honestly, all_whole, front_is, is_front}
use Rattle.bayou_journal.proofs.laws.an_append_of_several_leaves_an_honest_device.Goals as goal

pub returns-clause-added : goal.returns-clause-added
returns-clause-added g c = all_whole g.D.Device

pub returns-clause-failed : goal.returns-clause-failed
returns-clause-failed g c = all_honestly g.D.Device

pub returns-clause-front : goal.returns-clause-front
returns-clause-front g c = is_front

pub returns-clause-each : goal.returns-clause-each
returns-clause-each g c = front_is
