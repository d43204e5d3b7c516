use Rattle.bayou_journal.proofs.Ending.{finds_one}
use Rattle.bayou_journal.proofs.laws.what_is_found_is_one.Goals as goal

pub returns : goal.returns
returns c = finds_one
