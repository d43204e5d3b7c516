use Rattle.bayou_lang.specs.Laws.Fitting.{count_of-push}
use Rattle.bayou_lang.proofs.laws.one_more_write_is_counted.Goals as goal

pub returns : goal.returns
returns c = count_of-push
