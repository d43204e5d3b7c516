use Rattle.bayou_world.specs.Runs.{first_machine}
use Rattle.bayou_world.proofs.Possible.{run_possible}
use Rattle.bayou_world.proofs.laws.no_item_is_impossible.Goals as goal

pub returns : goal.returns
returns c count limit capacity asks events replies last run = run_possible (first_machine count limit capacity asks) events replies last run
