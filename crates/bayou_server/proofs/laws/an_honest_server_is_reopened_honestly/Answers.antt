use Rattle.bayou_server.proofs.Honesty.{answers, recovers, recovers_records, reopened_left}
use Rattle.bayou_server.proofs.laws.an_honest_server_is_reopened_honestly.Goals as goal

pub returns-clause-answer : goal.returns-clause-answer
returns-clause-answer g c =
    answers g.D.Device c.an_append_leaves_an_honest_device.ensures.whole c.an_honest_device_opens_honestly.ensures.opened c.an_honest_device_opens_honestly.ensures.passing

pub returns-clause-held : goal.returns-clause-held
returns-clause-held g c = recovers

pub returns-clause-records : goal.returns-clause-records
returns-clause-records g c = recovers_records

pub returns-clause-left : goal.returns-clause-left
returns-clause-left g c =
    reopened_left g.D.Device c.an_append_leaves_an_honest_device.ensures.whole c.an_honest_device_opens_honestly.ensures.whole c.an_honest_device_opens_honestly.ensures.again
    c.an_honest_device_opens_honestly.ensures.refused
