use Rattle.bayou_lang.proofs.Counts.{count_of-filter}
use Rattle.bayou_lang.proofs.laws.count_is_the_number_of_writes.Goals as goal

pub returns : goal.returns
returns c = count_of-filter
