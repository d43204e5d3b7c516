use Rattle.bayou_server.proofs.Honesty.{taken, written}
use Rattle.bayou_server.proofs.laws.an_honest_server_stays_honest.Goals as goal

pub returns-clause-written : goal.returns-clause-written
returns-clause-written g c = written g.D.Device c.an_append_leaves_an_honest_device.ensures.added c.an_append_leaves_an_honest_device.ensures.failed c.a_record_is_a_body.ensures.one

pub returns-clause-taken : goal.returns-clause-taken
returns-clause-taken g c = taken g.D.Device c.an_append_leaves_an_honest_device.ensures.added c.an_append_leaves_an_honest_device.ensures.failed c.a_record_is_a_body.ensures.one
