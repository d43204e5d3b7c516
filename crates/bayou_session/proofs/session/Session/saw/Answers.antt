use Rattle.std.proofs.Common.{rules}
use Rattle.bayou_session.proofs.session.Session.saw.Goals as goal

pub invariant_of-self : goal.invariant_of-self
invariant_of-self c = search rules

pub returns-clause-told : goal.returns-clause-told
returns-clause-told c = search rules

pub returns-clause-counts : goal.returns-clause-counts
returns-clause-counts c = search rules
