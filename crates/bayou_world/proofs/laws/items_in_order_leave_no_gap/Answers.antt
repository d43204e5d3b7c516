use Rattle.bayou_world.proofs.Collecting.{no_gap}
use Rattle.bayou_world.proofs.Running.{run_is_good}
use Rattle.bayou_world.proofs.laws.items_in_order_leave_no_gap.Goals as goal

pub returns : goal.returns
returns c count limit capacity asks events replies old now run server offer number at is reply last takes =
    no_gap old is.next now (run_is_good count limit capacity asks events replies old run) is.from offer number server is.database is.offered is.collects is.events is.replies_are is.run at is.among is.taken reply last takes
