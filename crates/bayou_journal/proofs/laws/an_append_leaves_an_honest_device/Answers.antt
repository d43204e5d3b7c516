use Rattle.bayou_journal.proofs.Honesty.{added_whole, append_honestly, journal-more, whole_is_honest}
use Rattle.bayou_journal.proofs.laws.an_append_leaves_an_honest_device.Goals as goal

pub returns-clause-more : goal.returns-clause-more
returns-clause-more g c = journal-more

pub returns-clause-whole : goal.returns-clause-whole
returns-clause-whole g c = whole_is_honest g.D.Device

pub returns-clause-added : goal.returns-clause-added
returns-clause-added g c = added_whole g.D.Device

pub returns-clause-failed : goal.returns-clause-failed
returns-clause-failed g c = append_honestly g.D.Device
