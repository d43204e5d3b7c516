use Rattle.std.proofs.Common.{List, ap, subst, sym}
use Rattle.bayou_journal.specs.Opened.{Found}
use Rattle.bayou_journal.specs.Versions.{Body}
use Rattle.bayou_server.specs.Server.{records_of}
use Rattle.bayou_server.specs.Stored.{Stores}
use Rattle.bayou_server.proofs.Deciding.{one_adopted}
use Rattle.bayou_server.proofs.laws.a_reopening_is_one.Goals as goal

pub returns : goal.returns
returns g c = λ adopted other old new next modelled recovers opened again reopened.
    let same = c.what_is_opened_is_one.ensures.one old.core.id old.device new.device next.device _ _ new.last next.last modelled opened.2.opened reopened.2.opened in
    one_adopted old.core adopted other new.core next.core opened.0 recovers again opened.1
    (subst (λ (b : List Body). Stores old.core.id b (records_of next.core)) (sym (ap (λ (f : Found). f.bodies) same.0)) reopened.1)
