use Rattle.bayou_lang.specs.Laws.Database.{value_at-changed}
use Rattle.bayou_lang.proofs.laws.a_change_is_of_its_key.Goals as goal

pub returns : goal.returns
returns c = value_at-changed
