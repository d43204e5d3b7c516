use Rattle.bayou_renew.proofs.Made.{made-without}
use Rattle.bayou_renew.proofs.laws.renewed_writes_make_the_database.Goals as goal

pub returns : goal.returns
returns c = made-without
