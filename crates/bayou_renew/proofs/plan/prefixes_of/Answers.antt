use Rattle.std.proofs.Common.{arith}
use Rattle.bayou_renew.specs.Words.{SaysPrefix}
use Rattle.bayou_renew.proofs.Said.{none_said, zip_more}
use Rattle.bayou_renew.proofs.plan.prefixes_of.Goals as goal

pub loop-word-preserved : goal.loop-word-preserved
loop-word-preserved c =
    zip_more (λ word prefix. SaysPrefix word.now prefix) c.args.words.now c.loop-word.word-index _ c.loop-word.prefixes.items c.push.new.self.items c.in-Some.prefix c.loop-word.invariant
    (omega arith) (rw c.if-is_err.ensures.negation at c.push.ensures.items) c.in-Some.ensures.said

pub returns-in_default-clause-refused : goal.returns-in_default-clause-refused
returns-in_default-clause-refused c = none_said c.args.words.now c.loop-word.word-index _ c.loop-word-test.true c.in_default.ensures.none
