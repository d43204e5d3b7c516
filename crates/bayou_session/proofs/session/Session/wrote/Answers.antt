use Rattle.std.proofs.Common.{rules}
use Rattle.bayou_session.proofs.session.Session.wrote.Goals as goal

pub returns-clause-told : goal.returns-clause-told
returns-clause-told c = search rules
