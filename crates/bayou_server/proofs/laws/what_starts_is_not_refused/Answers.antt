use Rattle.std.proofs.Common.{◌≡◌, ℕ, List, ap, subst}
use Rattle.bayou_journal.specs.Opened.{Found}
use Rattle.bayou_journal.specs.Opening.{HasOpened}
use Rattle.bayou_journal.specs.Versions.{Body}
use Rattle.bayou_server.specs.Server.{AreTags, Core, MayHold, records_of}
use Rattle.bayou_server.specs.Stored.{Stores}
use Rattle.bayou_server.proofs.Deciding.{none_refused}
use Rattle.bayou_server.proofs.laws.what_starts_is_not_refused.Goals as goal

pub returns : goal.returns
returns g c = λ id count limit dropped device left server fault modelled starts opened stops.
    let here : server.core.id ≡ id = ap (λ (s : Core). s.id) starts.is in
    let opens = subst (λ (s : ℕ). HasOpened g.D.Device s device server.device (record { bodies = opened.bodies; dropped = dropped }) server.last) here opened.opened in
    let same = c.what_is_opened_is_one.ensures.one id device server.device left _ _ server.last stops.last modelled opens stops.opened.opened in
    let holds : MayHold id count limit server.core.held = subst (λ (s : Core). MayHold s.id s.count s.limit s.held) starts.is starts.sound.holds in
    let tagged : AreTags id server.core.held server.core.tags = subst (λ (n : ℕ). AreTags n server.core.held server.core.tags) here starts.sound.tagged in
    let stores = subst (λ (b : List Body). Stores id b (records_of server.core)) (ap (λ (f : Found). f.bodies) same.0)
    (subst (λ (n : ℕ). Stores n opened.bodies (records_of server.core)) here opened.stores) in
    none_refused c.bytes_are_of_one_record.ensures id count limit server.core.held server.core.tags stops.bodies fault holds tagged stores stops.refused
