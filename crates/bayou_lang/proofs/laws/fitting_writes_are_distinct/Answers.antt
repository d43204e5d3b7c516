use Rattle.bayou_lang.specs.Laws.Fitting.{fitting_distinct_wids, fitting_distinct_stamps}
use Rattle.bayou_lang.proofs.laws.fitting_writes_are_distinct.Goals as goal

pub returns-clause-wids : goal.returns-clause-wids
returns-clause-wids c = fitting_distinct_wids

pub returns-clause-stamps : goal.returns-clause-stamps
returns-clause-stamps c = fitting_distinct_stamps
