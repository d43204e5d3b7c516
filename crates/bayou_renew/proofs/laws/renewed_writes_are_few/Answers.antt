use Rattle.bayou_renew.proofs.Made.{made-few}
use Rattle.bayou_renew.proofs.laws.renewed_writes_are_few.Goals as goal

pub returns : goal.returns
returns c = made-few
