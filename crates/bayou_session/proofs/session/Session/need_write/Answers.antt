use Rattle.std.proofs.Common.{rules}
use Rattle.bayou_session.proofs.session.Session.need_write.Goals as goal

pub returns-clause-value : goal.returns-clause-value
returns-clause-value c = search rules
