use Rattle.bayou_lang.proofs.MeaningLaws.{mean-updated}
use Rattle.bayou_lang.proofs.laws.updated_means_all_ops.Goals as goal

pub returns : goal.returns
returns c = mean-updated
