use Rattle.bayou_journal.proofs.Crashing.{doubt_is_kept, entry_in_doubt, front_of_doubt, front_of_several, kept_and_tail, the_same_device}
use Rattle.bayou_journal.proofs.Raising.{marked-newest}
use Rattle.bayou_journal.proofs.laws.what_stands_behind_the_kept_decides.Goals as goal

pub returns-clause-honest : goal.returns-clause-honest
returns-clause-honest g c = kept_and_tail g.D.Device

pub returns-clause-doubt : goal.returns-clause-doubt
returns-clause-doubt g c = doubt_is_kept g.D.Device

pub returns-clause-front : goal.returns-clause-front
returns-clause-front g c = front_of_doubt

pub returns-clause-entry : goal.returns-clause-entry
returns-clause-entry g c = entry_in_doubt

pub returns-clause-newest : goal.returns-clause-newest
returns-clause-newest g c = marked-newest

pub returns-clause-same : goal.returns-clause-same
returns-clause-same g c = the_same_device g.D.Device

pub returns-clause-several : goal.returns-clause-several
returns-clause-several g c = front_of_several
