use Rattle.bayou_script.proofs.Arranged.{all_arranged}
use Rattle.bayou_script.proofs.laws.all_that_was_said_is_arranged.Goals as goal

pub returns : goal.returns
returns c = all_arranged
