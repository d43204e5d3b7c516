use Rattle.std.proofs.Common.{◌≡◌, ◌∙◌, List, [], ap, length, subst, sym}
use Rattle.bayou_journal.specs.Versions.{Body}
use Rattle.bayou_wire.specs.declared.record.Record.{Record}
use Rattle.bayou_server.specs.Server.{records_of}
use Rattle.bayou_server.specs.Stored.{Stores}
use Rattle.bayou_server.proofs.Deciding.{of_nothing}
use Rattle.bayou_server.proofs.Beside.{many_records, nothing_long, one_each}
use Rattle.bayou_server.proofs.laws.a_start_on_an_empty_device_holds_nothing.Goals as goal

pub returns : goal.returns
returns g c = λ id count limit dropped device server modelled empty starts opened.
    let none = c.what_is_opened_is_one.ensures.nothing server.core.id device server.device _ server.last modelled empty opened.opened in
    let nothing : records_of server.core ≡ [] = of_nothing server.core.id (records_of server.core) (subst (λ (b : List Body). Stores server.core.id b (records_of server.core)) none.0 opened.stores) in
    let same = one_each server.core.id server.core.held server.core.tags starts.sound.tagged in
    let none_held : length server.core.held ≡ 0 = sym (many_records server.core.held server.core.tags same) ∙ ap {A = List Record} length nothing in
    (nothing_long server.core.held none_held, nothing_long server.core.tags (same ∙ none_held), none.1)
