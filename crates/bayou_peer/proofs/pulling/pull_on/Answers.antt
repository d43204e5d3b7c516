use Rattle.std.proofs.Common.{rules}
use Rattle.bayou_peer.proofs.pulling.pull_on.Goals as goal

pub returns-clause-offered : goal.returns-clause-offered
returns-clause-offered g c = search rules
