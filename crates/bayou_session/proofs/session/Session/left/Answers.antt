use Rattle.std.proofs.Common.{rules}
use Rattle.bayou_session.proofs.session.Session.left.Goals as goal

pub returns : goal.returns
returns c = search rules
