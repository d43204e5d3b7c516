use Rattle.bayou_renew.proofs.Made.{made-alike, made-own}
use Rattle.bayou_renew.proofs.laws.renewed_writes_are_of_the_rows.Goals as goal

pub returns-clause-alike : goal.returns-clause-alike
returns-clause-alike c = made-alike

pub returns-clause-own : goal.returns-clause-own
returns-clause-own c = made-own
