use Rattle.std.proofs.Common.{◌≡◌, ℕ, List, Option, None, sym, ap, subst}
use Rattle.bayou_journal.specs.Opening.{HasOpened}
use Rattle.bayou_wire.specs.declared.record.Record.{Record}
use Rattle.bayou_server.specs.Honest.{AreHonest, IsLeft}
use Rattle.bayou_server.specs.Server.{Core, record_in_doubt, records, records_of}
use Rattle.bayou_server.specs.Stored.{Stores}
use Rattle.bayou_server.proofs.Deciding.{one_list}
use Rattle.bayou_server.proofs.Honesty.{honest_writes, none_in_doubt, start_left, start_refused, whole_of_device, whole_opened}
use Rattle.bayou_server.proofs.Beside.{one_each}
use Rattle.bayou_server.proofs.laws.a_start_on_an_honest_device_is_honest.Goals as goal

pub returns-clause-records : goal.returns-clause-records
returns-clause-records g c = λ old dropped device server modelled sound one starts opened.
    let here : server.core.id ≡ old.id = ap (λ (s : Core). s.id) starts.is in
    let opens = subst (λ (s : ℕ). HasOpened g.D.Device s device server.device (record { bodies = opened.bodies; dropped = dropped }) server.last) here opened.opened in
    let whole = whole_of_device g.D.Device c.an_honest_device_opens_honestly.ensures.opened old device server.device opened.bodies server.last modelled sound one (record { dropped = dropped; opened = opens }) in
    let stores : Stores old.id opened.bodies (records_of server.core) = subst (λ (s : ℕ). Stores s opened.bodies (records_of server.core)) here opened.stores in
    let same : records_of server.core ≡ records whole.writes whole.tags = one_list c.bytes_are_of_one_record.ensures old.id opened.bodies (records_of server.core) (records whole.writes whole.tags) stores whole.stores in
    subst (λ (l : List Record). AreHonest (records_of old) (record_in_doubt old) l) (sym same) whole.honest

pub returns-clause-held : goal.returns-clause-held
returns-clause-held g c = λ old dropped device server modelled sound one starts opened.
    honest_writes old server.core (one_each old.id old.held old.tags sound.tagged) (one_each server.core.id server.core.held server.core.tags starts.sound.tagged)
    (returns-clause-records g c old dropped device server modelled sound one starts opened)

pub returns-clause-whole : goal.returns-clause-whole
returns-clause-whole g c = λ id count limit dropped device server modelled starts opened.
    let up : server.core.doubt ≡ None = ap (λ (s : Core). s.doubt) starts.is in
    subst (λ (o : Option Record). IsLeft g.D.Device server.core.id (records_of server.core) o server.last server.device) (sym (none_in_doubt server.core up))
    (whole_opened g.D.Device c.an_honest_device_opens_honestly.ensures.whole server.core.id (records_of server.core) device server.device opened.bodies server.last modelled opened.stores
    (record { dropped = dropped; opened = opened.opened }))

pub returns-clause-refusal : goal.returns-clause-refusal
returns-clause-refusal g c = start_refused g.D.Device c.an_honest_device_opens_honestly.ensures.opened c.an_honest_device_opens_honestly.ensures.passing c.bytes_are_of_one_record.ensures

pub returns-clause-left : goal.returns-clause-left
returns-clause-left g c = start_left g.D.Device c.an_honest_device_opens_honestly.ensures.again c.an_honest_device_opens_honestly.ensures.refused
