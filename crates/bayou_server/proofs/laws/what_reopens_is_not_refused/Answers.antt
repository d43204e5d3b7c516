use Rattle.std.proofs.Common.{List, ap, subst}
use Rattle.bayou_journal.specs.Opened.{Found}
use Rattle.bayou_journal.specs.Versions.{Body}
use Rattle.bayou_server.specs.Server.{records_of}
use Rattle.bayou_server.specs.Stored.{Stores}
use Rattle.bayou_server.proofs.Deciding.{begins_again, nothing_other}
use Rattle.bayou_server.proofs.laws.what_reopens_is_not_refused.Goals as goal

pub returns : goal.returns
returns g c = λ adopted old new left bodies last doubt modelled recovers opened opens is.
    let same = c.what_is_opened_is_one.ensures.one old.core.id old.device new.device left _ _ new.last last modelled opened.2.opened opens.opened in
    let stores = subst (λ (b : List Body). Stores old.core.id b (records_of new.core)) (ap (λ (f : Found). f.bodies) same.0) opened.1 in
    (begins_again old.core adopted new.core bodies recovers stores, nothing_other old.core doubt adopted new.core bodies is recovers stores)
