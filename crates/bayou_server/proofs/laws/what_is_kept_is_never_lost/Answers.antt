use Rattle.std.proofs.Common.{◌≡◌, ℕ, ap, subst}
use Rattle.std.specs.Prelude.{List}
use Rattle.bayou_journal.specs.Opening.{HasOpened}
use Rattle.bayou_journal.specs.Versions.{Body}
use Rattle.bayou_server.specs.Faults.{open_fault}
use Rattle.bayou_server.specs.Server.{Core, records_of}
use Rattle.bayou_server.specs.Stored.{Stores}
use Rattle.bayou_server.proofs.Honesty.{refusal_of}
use Rattle.bayou_server.proofs.Keeping.{begins_with, never_lost}
use Rattle.bayou_server.proofs.laws.what_is_kept_is_never_lost.Goals as goal

pub returns-clause-reopened : goal.returns-clause-reopened
returns-clause-reopened g c = λ bodies result old new modelled sound stores begins told.
    never_lost g.D.Device c.what_is_kept_is_found.ensures.opened c.what_is_kept_is_found.ensures.passing bodies result old new modelled stores begins told

pub returns-clause-started : goal.returns-clause-started
returns-clause-started g c = λ bodies held id count limit dropped device server modelled stores begins starts opened.
    let here : server.core.id ≡ id = ap (λ (s : Core). s.id) starts.is in
    let opens = subst (λ (s : ℕ). HasOpened g.D.Device s device server.device (record { bodies = opened.bodies; dropped = dropped }) server.last) here opened.opened in
    let more = c.what_is_kept_is_found.ensures.opened id bodies device server.device (record { bodies = opened.bodies; dropped = dropped }) server.last modelled begins opens in
    begins_with c.bytes_are_of_one_record.ensures id bodies more.0 (records_of server.core) held
    (subst (λ (b : List Body). Stores id b (records_of server.core)) more.1 (subst (λ (s : ℕ). Stores s opened.bodies (records_of server.core)) here opened.stores)) stores

pub returns-clause-refused : goal.returns-clause-refused
returns-clause-refused g c = λ bodies id count limit device left fault modelled begins told.
    refusal_of fault (c.what_is_kept_is_found.ensures.passing id bodies device left (open_fault fault) modelled begins told)
