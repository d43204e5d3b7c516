use Rattle.std.proofs.Common.{rules}
use Rattle.bayou_peer.proofs.answering.serve_offer_on.Goals as goal

pub returns-clause-serves : goal.returns-clause-serves
returns-clause-serves g c = search rules
