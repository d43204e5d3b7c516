use Rattle.std.proofs.Common.{◌≡◌, ◌≢◌, All, ap, arith, rules, subst, sym}
use Rattle.std.proofs.lemmas.List.{take_all}
use Rattle.std.proofs.lemmas.List.Elements.{All-weaker}
use Rattle.bayou_base.specs.declared.server.ServerId.{ServerId}
use Rattle.bayou_serve.specs.declared.plan.Peer.{Peer}
use Rattle.bayou_serve.proofs.plan.has_peer.Goals as goal

pub returns-then-eq-clause-some : goal.returns-then-eq-clause-some
returns-then-eq-clause-some c =
    let same : c.peer-item.result.id.index ≡ c.args.id.index = search rules in
    λ _. (c.loop-peer.peer-index, c.peer-item.result, c.loop-peer-test.true, sym c.peer-item.is, same)

pub returns-clause-other : goal.returns-clause-other
returns-clause-other c = λ _. subst (All (λ (peer : Peer). peer.id.index ≢ c.args.id.index)) (take_all c.loop-peer.peer-index c.args.peers.now (omega arith)) c.loop-peer.invariant

pub returns-clause-none : goal.returns-clause-none
returns-clause-none c = λ _.
    All-weaker (λ (peer : Peer). peer.id.index ≢ c.args.id.index) (λ (peer : Peer). peer.id ≢ c.args.id) (λ peer other same. other (ap (λ (id : ServerId). id.index) same)) c.args.peers.now
    (subst (All (λ (peer : Peer). peer.id.index ≢ c.args.id.index)) (take_all c.loop-peer.peer-index c.args.peers.now (omega arith)) c.loop-peer.invariant)
