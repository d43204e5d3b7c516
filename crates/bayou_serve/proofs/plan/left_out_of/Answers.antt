use Rattle.std.proofs.Common.{arith}
use Rattle.bayou_serve.specs.Words.{SaysServer}
use Rattle.bayou_serve.proofs.Named.{none_left, others_more}
use Rattle.bayou_serve.proofs.Zipped.{zip_more}
use Rattle.bayou_serve.proofs.plan.left_out_of.Goals as goal

pub loop-word-preserved : goal.loop-word-preserved
loop-word-preserved c = record {
  said = zip_more (λ word server. SaysServer word.now server) c.args.words.now c.loop-word.word-index _ c.loop-word.left_out.items c.push.new.self.items c.in-Some.server c.loop-word.invariant.said
      (omega arith) (rw c.if-is_err.ensures.negation at c.push.ensures.items) c.in-Some.ensures.said;
  others = others_more c.args.id.index c.args.servers c.args.peers.now c.loop-word.left_out.items c.push.new.self.items c.in-Some.server c.loop-word.invariant.others
      (rw c.if-is_err.ensures.negation at c.push.ensures.items) c.in-Some.ensures.left;
}

pub returns-in_default-clause-refused : goal.returns-in_default-clause-refused
returns-in_default-clause-refused c = none_left c.args.id.index c.args.servers c.args.peers.now c.args.words.now c.loop-word.word-index _ c.loop-word-test.true c.in_default.ensures.none
