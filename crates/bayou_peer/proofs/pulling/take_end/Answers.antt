use Rattle.std.proofs.Common.{rules}
use Rattle.bayou_peer.proofs.pulling.take_end.Goals as goal

pub returns-clause-at : goal.returns-clause-at
returns-clause-at c = search rules
