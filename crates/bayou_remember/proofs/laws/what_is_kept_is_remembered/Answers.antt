use Rattle.bayou_remember.proofs.Having.{failed, opened}
use Rattle.bayou_remember.proofs.laws.what_is_kept_is_remembered.Goals as goal

pub returns-clause-opened : goal.returns-clause-opened
returns-clause-opened g c = opened g.D.Device c.bytes_keep_one_session.ensures c.an_append_leaves_an_honest_device.ensures.whole c.an_honest_device_opens_honestly.ensures.opened
    c.an_honest_device_opens_honestly.ensures.whole

pub returns-clause-failed : goal.returns-clause-failed
returns-clause-failed g c = failed g.D.Device c.bytes_keep_one_session.ensures c.an_append_leaves_an_honest_device.ensures.whole c.an_honest_device_opens_honestly.ensures.opened
    c.an_honest_device_opens_honestly.ensures.whole c.an_append_leaves_an_honest_device.ensures.failed
