use Rattle.std.proofs.Common.{◌≡◌, ℕ, List, sym, ap, subst}
use Rattle.bayou_journal.specs.Opening.{HasOpened}
use Rattle.bayou_lang.specs.declared.write.Write.{Write}
use Rattle.bayou_server.specs.Honest.{AreBetween}
use Rattle.bayou_server.specs.Server.{Core, records, records_of}
use Rattle.bayou_server.specs.Stored.{Stores}
use Rattle.bayou_server.proofs.Amid.{among_device, crashed_amid, refused_amid}
use Rattle.bayou_server.proofs.Beside.{one_each, one_of_each}
use Rattle.bayou_server.proofs.Deciding.{one_list}
use Rattle.bayou_server.proofs.laws.a_crash_amid_several_leaves_an_honest_device.Goals as goal

pub returns-clause-honest : goal.returns-clause-honest
returns-clause-honest g c = crashed_amid g.D.Device c.a_crash_leaves_an_honest_device.ensures

pub returns-clause-started : goal.returns-clause-started
returns-clause-started g c = λ core taking dropped device server modelled sound one starts opened.
    let here : server.core.id ≡ core.id = ap (λ (s : Core). s.id) starts.is in
    let opens = subst (λ (s : ℕ). HasOpened g.D.Device s device server.device (record { bodies = opened.bodies; dropped = dropped }) server.last) here opened.opened in
    let whole = among_device g.D.Device c.an_honest_device_opens_honestly.ensures.opened core taking device server.device opened.bodies server.last modelled sound one (record { dropped = dropped; opened = opens }) in
    let stores : Stores core.id opened.bodies (records_of server.core) = subst (λ (s : ℕ). Stores s opened.bodies (records_of server.core)) here opened.stores in
    let same : records_of server.core ≡ records whole.writes whole.tags = one_list c.bytes_are_of_one_record.ensures core.id opened.bodies (records_of server.core) (records whole.writes whole.tags) stores whole.stores in
    let held = (one_of_each server.core.held whole.writes server.core.tags whole.tags (one_each server.core.id server.core.held server.core.tags starts.sound.tagged) (one_each core.id whole.writes whole.tags whole.tagged) same).0 in (
      subst (λ (l : List Write). AreBetween core.held taking l) (sym held) whole.between,
      c.a_start_on_an_honest_device_is_honest.ensures.whole core.id core.count core.limit dropped device server modelled starts opened,
    )

pub returns-clause-refused : goal.returns-clause-refused
returns-clause-refused g c = refused_amid g.D.Device c.an_honest_device_opens_honestly.ensures.opened c.an_honest_device_opens_honestly.ensures.passing c.bytes_are_of_one_record.ensures
