use Rattle.bayou_journal.proofs.Raising.{told_are_bodies}
use Rattle.bayou_journal.proofs.laws.what_is_told_are_bodies.Goals as goal

pub returns : goal.returns
returns c = λ records. told_are_bodies records.version records.bodies
