use Rattle.bayou_lang.proofs.MeaningLaws.{mean-merged}
use Rattle.bayou_lang.proofs.laws.merged_means_the_first_that_fits.Goals as goal

pub returns : goal.returns
returns c = mean-merged
