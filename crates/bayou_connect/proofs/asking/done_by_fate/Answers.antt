use Rattle.bayou_connect.proofs.Serving.{unserved_fate}
use Rattle.bayou_connect.proofs.asking.done_by_fate.Goals as goal

pub returns-in-Err : goal.returns-in-Err
returns-in-Err c = λ begun. rw c.in-Err.is (unserved_fate begun c.unserved.result c.unserved.ensures)
