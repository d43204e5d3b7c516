use Rattle.bayou_world.proofs.Agreeing.{item_tests_agree}
use Rattle.bayou_world.proofs.Consistent.{agree}
use Rattle.bayou_world.proofs.Running.{run_is_good}
use Rattle.bayou_world.proofs.laws.sets_and_vectors_agree.Goals as goal

pub returns : goal.returns
returns c = record {
  sets = λ count limit capacity asks events replies last run. agree last (run_is_good count limit capacity asks events replies last run);
  items = λ count limit capacity asks events replies last run. item_tests_agree last (run_is_good count limit capacity asks events replies last run);
}
