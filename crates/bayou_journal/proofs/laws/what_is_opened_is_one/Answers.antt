use Rattle.bayou_journal.proofs.Honesty.{opened_is_one, opens_nothing}
use Rattle.bayou_journal.proofs.laws.what_is_opened_is_one.Goals as goal

pub returns-clause-one : goal.returns-clause-one
returns-clause-one g c = opened_is_one g.D.Device

pub returns-clause-nothing : goal.returns-clause-nothing
returns-clause-nothing g c = opens_nothing g.D.Device
