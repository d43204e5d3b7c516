use Rattle.bayou_lang.specs.Laws.Database.{value_at-empty}
use Rattle.bayou_lang.proofs.laws.the_empty_database_has_nothing.Goals as goal

pub returns : goal.returns
returns c = value_at-empty
