use Rattle.bayou_server.specs.Server.{record_in_doubt, records_of}
use Rattle.bayou_server.proofs.Crashing.{crashed}
use Rattle.bayou_server.proofs.laws.a_crash_leaves_an_honest_device.Goals as goal

pub returns-clause-honest : goal.returns-clause-honest
returns-clause-honest g c = crashed g.D.Device c.a_crash_leaves_an_honest_device.ensures

pub returns-clause-started : goal.returns-clause-started
returns-clause-started g c = λ old dropped before device server modelled sound keeps crash starts opened.
    let honest = crashed g.D.Device c.a_crash_leaves_an_honest_device.ensures old.id (records_of old) (record_in_doubt old) before device keeps crash in (
      c.a_start_on_an_honest_device_is_honest.ensures.held old dropped device server modelled sound honest starts opened,
      c.a_start_on_an_honest_device_is_honest.ensures.records old dropped device server modelled sound honest starts opened,
      c.a_start_on_an_honest_device_is_honest.ensures.whole old.id old.count old.limit dropped device server modelled starts opened,
    )

pub returns-clause-refused : goal.returns-clause-refused
returns-clause-refused g c = λ old before device left fault modelled sound keeps crash told.
    let honest = crashed g.D.Device c.a_crash_leaves_an_honest_device.ensures old.id (records_of old) (record_in_doubt old) before device keeps crash in
    c.a_start_on_an_honest_device_is_honest.ensures.refusal old device left fault modelled sound honest told
