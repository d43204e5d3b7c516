use Rattle.bayou_journal.proofs.Honesty.{honest_again, opens_honestly, opens_whole, passes, refused_honestly}
use Rattle.bayou_journal.proofs.laws.an_honest_device_opens_honestly.Goals as goal

pub returns-clause-whole : goal.returns-clause-whole
returns-clause-whole g c = opens_whole g.D.Device

pub returns-clause-opened : goal.returns-clause-opened
returns-clause-opened g c = opens_honestly g.D.Device

pub returns-clause-again : goal.returns-clause-again
returns-clause-again g c = honest_again g.D.Device

pub returns-clause-passing : goal.returns-clause-passing
returns-clause-passing g c = passes g.D.Device c.what_is_found_is_not_refused.ensures.foreign c.what_is_found_is_not_refused.ensures.another

pub returns-clause-refused : goal.returns-clause-refused
returns-clause-refused g c = refused_honestly g.D.Device
