use Rattle.bayou_world.proofs.Never.{no_item_is_refused, nothing_other_is_found, rows_of_rules}
use Rattle.bayou_world.proofs.Running.{run_is_good}
use Rattle.bayou_world.proofs.laws.the_rules_of_servers_refuse_nothing_impossible.Goals as goal

pub returns : goal.returns
returns g c = record {
  takes = λ count limit capacity asks events replies last run place item made got answer new takes_it.
      no_item_is_refused last (run_is_good count limit capacity asks events replies last run) place item made got answer new takes_it;
  rows = λ count limit capacity asks events replies last run place item made given answer new takes_it.
      rows_of_rules last (run_is_good count limit capacity asks events replies last run) place item made given answer new takes_it;
  reopens = λ old new answer honest is reopens. nothing_other_is_found _ _ old new answer honest reopens;
}
