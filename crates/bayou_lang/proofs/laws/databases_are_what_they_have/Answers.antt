use Rattle.bayou_lang.specs.Laws.Database.{same_database}
use Rattle.bayou_lang.proofs.laws.databases_are_what_they_have.Goals as goal

pub returns : goal.returns
returns c = same_database
