use Rattle.bayou_lang.proofs.ChangeLists.{ChangeOnly-none}
use Rattle.bayou_lang.proofs.eval.update_changes.Goals as goal

pub returns-in-None-clause-only : goal.returns-in-None-clause-only
returns-in-None-clause-only g c = rw c.clear.ensures (ChangeOnly-none _)
