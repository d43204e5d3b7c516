use Rattle.bayou_world.proofs.Consistent.{consistent}
use Rattle.bayou_world.proofs.Running.{run_is_good}
use Rattle.bayou_world.proofs.laws.every_run_is_consistent.Goals as goal

pub returns : goal.returns
returns c count limit capacity asks events replies last run =
    consistent c.count_is_the_number_of_writes.ensures last (run_is_good count limit capacity asks events replies last run)
