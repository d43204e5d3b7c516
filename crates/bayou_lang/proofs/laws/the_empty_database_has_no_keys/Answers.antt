use Rattle.bayou_lang.specs.Laws.Database.{number_with-empty}
use Rattle.bayou_lang.proofs.laws.the_empty_database_has_no_keys.Goals as goal

pub returns : goal.returns
returns c = number_with-empty
