use Rattle.bayou_lang.specs.Laws.Lacking.{lacking_of-goes_on}
use Rattle.bayou_lang.proofs.laws.what_is_lacking_goes_on.Goals as goal

pub returns : goal.returns
returns c = lacking_of-goes_on
