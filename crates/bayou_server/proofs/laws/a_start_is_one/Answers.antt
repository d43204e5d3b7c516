use Rattle.std.proofs.Common.{◌≡◌, ℕ, List, sym, ◌∙◌, ap, subst}
use Rattle.bayou_journal.specs.Opened.{Found}
use Rattle.bayou_journal.specs.Opening.{HasOpened}
use Rattle.bayou_journal.specs.Versions.{Body}
use Rattle.bayou_server.specs.Server.{Core, records_of}
use Rattle.bayou_server.specs.Stored.{Stores}
use Rattle.bayou_server.proofs.Deciding.{one_list}
use Rattle.bayou_server.proofs.Beside.{one_each, one_of_each}
use Rattle.bayou_server.proofs.laws.a_start_is_one.Goals as goal

pub returns : goal.returns
returns g c = λ id count limit dropped more device one other modelled starts opened begins reopened.
    let here : one.core.id ≡ other.core.id = ap (λ (s : Core). s.id) starts.is ∙ sym (ap (λ (s : Core). s.id) begins.is) in
    let again = subst (λ (s : ℕ). HasOpened g.D.Device s device other.device (record { bodies = reopened.bodies; dropped = more }) other.last) (sym here) reopened.opened in
    let same = c.what_is_opened_is_one.ensures.one one.core.id device one.device other.device _ _ one.last other.last modelled opened.opened again in
    let stores = subst (λ (b : List Body). Stores one.core.id b (records_of other.core)) (sym (ap (λ (f : Found). f.bodies) same.0))
    (subst (λ (s : ℕ). Stores s reopened.bodies (records_of other.core)) (sym here) reopened.stores) in
    let is = one_of_each one.core.held other.core.held one.core.tags other.core.tags (one_each one.core.id one.core.held one.core.tags starts.sound.tagged)
    (one_each other.core.id other.core.held other.core.tags begins.sound.tagged)
    (one_list c.bytes_are_of_one_record.ensures one.core.id opened.bodies (records_of one.core) (records_of other.core) opened.stores stores) in
    (is.0, is.1, ap (λ (f : Found). f.dropped) same.0)
