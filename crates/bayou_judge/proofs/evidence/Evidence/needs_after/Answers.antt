use Rattle.bayou_judge.proofs.Found.{needs_other}
use Rattle.bayou_judge.proofs.evidence.Evidence.needs_after.Goals as goal

-- src/every.rt
pub returns-then-entry-session : goal.returns-then-entry-session
returns-then-entry-session c = λ guarantee is. c.needs_with.ensures c.args.session.index guarantee is

-- src/every.rt
pub returns-else-entry-session : goal.returns-else-entry-session
returns-else-entry-session c = λ guarantee is.
    needs_other c.args.self.now.dumps c.args.self.now.entries guarantee c.args.session.index c.args.at c.entry.result.now c.args.needs.now c.entry.ensures.is (λ same. c.if-entry-session.false same) is
