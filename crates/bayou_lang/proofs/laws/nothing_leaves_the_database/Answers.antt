use Rattle.bayou_lang.proofs.MeaningLaws.{mean-nothing}
use Rattle.bayou_lang.proofs.laws.nothing_leaves_the_database.Goals as goal

pub returns : goal.returns
returns c = mean-nothing
