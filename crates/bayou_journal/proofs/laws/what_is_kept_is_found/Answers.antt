use Rattle.bayou_journal.proofs.Honesty.{begins_again, kept_is_found, kept_passes}
use Rattle.bayou_journal.proofs.laws.what_is_kept_is_found.Goals as goal

pub returns-clause-opened : goal.returns-clause-opened
returns-clause-opened g c = λ server bodies old new found last. kept_is_found g.D.Device server bodies old new found last (g.met.D.Device.keeps old)

pub returns-clause-passing : goal.returns-clause-passing
returns-clause-passing g c = λ server bodies old new fault. kept_passes g.D.Device server bodies old new fault (g.met.D.Device.keeps old)

pub returns-clause-again : goal.returns-clause-again
returns-clause-again g c = begins_again
