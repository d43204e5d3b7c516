use Rattle.bayou_restore.proofs.Made.{made_is_history}
use Rattle.bayou_restore.proofs.laws.what_a_server_made_is_a_history.Goals as goal

pub returns : goal.returns
returns c = λ server count journal writes sound. made_is_history server count journal sound writes
