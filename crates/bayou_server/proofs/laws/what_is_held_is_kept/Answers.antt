use Rattle.bayou_server.proofs.Crashing.{again, device_keeps, honest_keeps, reopened, taken, writes_of, written}
use Rattle.bayou_server.proofs.laws.what_is_held_is_kept.Goals as goal

pub returns-clause-honest : goal.returns-clause-honest
returns-clause-honest g c = honest_keeps g.D.Device

pub returns-clause-written : goal.returns-clause-written
returns-clause-written g c =
    written g.D.Device c.an_append_leaves_an_honest_device.ensures.whole c.an_append_leaves_an_honest_device.ensures.added c.a_record_is_a_body.ensures.one c.what_is_kept_is_found.ensures.again

pub returns-clause-taken : goal.returns-clause-taken
returns-clause-taken g c =
    taken g.D.Device c.an_append_leaves_an_honest_device.ensures.whole c.an_append_leaves_an_honest_device.ensures.added c.a_record_is_a_body.ensures.one c.what_is_kept_is_found.ensures.again

pub returns-clause-reopened : goal.returns-clause-reopened
returns-clause-reopened g c = reopened g.D.Device c.an_append_leaves_an_honest_device.ensures.whole c.an_honest_device_opens_honestly.ensures.whole c.what_is_kept_is_found.ensures.again

pub returns-clause-device : goal.returns-clause-device
returns-clause-device g c = writes_of g.D.Device c.an_append_leaves_an_honest_device.ensures.whole

pub returns-clause-honest_device : goal.returns-clause-honest_device
returns-clause-honest_device g c = device_keeps g.D.Device

pub returns-clause-again : goal.returns-clause-again
returns-clause-again g c = again g.D.Device c.what_is_kept_is_found.ensures.again
