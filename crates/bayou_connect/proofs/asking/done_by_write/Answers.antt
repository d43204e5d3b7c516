use Rattle.bayou_connect.proofs.Serving.{unserved_write}
use Rattle.bayou_connect.proofs.asking.done_by_write.Goals as goal

pub returns-in-Err : goal.returns-in-Err
returns-in-Err c = λ begun. rw c.in-Err.is (unserved_write begun c.unserved.result c.unserved.ensures)
