use Rattle.bayou_remember.proofs.Unique.{one_kept}
use Rattle.bayou_remember.proofs.laws.bytes_keep_one_session.Goals as goal

pub returns : goal.returns
returns c = one_kept
