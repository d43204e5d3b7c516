use Rattle.std.proofs.Common.{◌≡◌, arith, rules}
use Rattle.bayou_serve.specs.Words.{SaysPeer}
use Rattle.bayou_serve.proofs.Worded.{no_other, none_said, twice}
use Rattle.bayou_serve.proofs.Zipped.{zip_more}
use Rattle.bayou_serve.proofs.plan.peers_of.Goals as goal
use Rattle.bayou_serve.proofs.plan.peers_of.Goals.{then-peer-servers-via-then-peer-servers, then-peer-servers-via-else-peer-servers+then-eq}

pub loop-word-preserved : goal.loop-word-preserved
loop-word-preserved c = record {
  others = search rules;
  once = search rules;
  number = search rules;
  said = zip_more (λ word peer. SaysPeer word.now peer) c.args.words.now c.loop-word.word-index _ c.loop-word.peers.items c.push.new.self.items c.in-Some.peer c.loop-word.invariant.said
      (omega arith) (rw c.if-is_err.ensures.negation at c.push.ensures.items) c.in-Some.ensures.said;
}

pub returns-in_default-clause-refused : goal.returns-in_default-clause-refused
returns-in_default-clause-refused c =
    none_said c.args.id.index c.args.servers c.args.words.now c.loop-word.word-index _ c.loop-word-test.true (λ peer says other. c.in_default.ensures.none peer says)

pub returns-then-peer-servers-clause-refused : goal.returns-then-peer-servers-clause-refused
returns-then-peer-servers-clause-refused c =
    none_said c.args.id.index c.args.servers c.args.words.now c.loop-word.word-index _ c.loop-word-test.true
    (elim c.then-peer-servers.branch [
      | then-peer-servers-via-then-peer-servers w ↦ no_other c.args.id.index c.args.servers _ c.in-Some.peer c.in-Some.ensures.said (λ (among, other). omega (arith, w.if-peer-servers.true, among))
      | then-peer-servers-via-else-peer-servers+then-eq w ↦
          let same : c.in-Some.peer.id.index ≡ c.args.id.index = search rules in
          no_other c.args.id.index c.args.servers _ c.in-Some.peer c.in-Some.ensures.said (λ (among, other). other same)
    ])

pub returns-then-has_peer-clause-refused : goal.returns-then-has_peer-clause-refused
returns-then-has_peer-clause-refused c =
    twice c.args.words.now c.loop-word.word-index _ c.loop-word.peers.items c.in-Some.peer c.loop-word.invariant.said c.loop-word.invariant.number c.loop-word-test.true c.in-Some.ensures.said
    (rw c.deref.ensures.value at (c.has_peer.ensures.some c.if-has_peer.true))
