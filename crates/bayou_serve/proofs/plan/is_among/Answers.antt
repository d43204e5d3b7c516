use Rattle.std.proofs.Common.{◌≡◌, ◌≢◌, All, arith, rules, subst, sym}
use Rattle.std.proofs.lemmas.List.{take_all}
use Rattle.bayou_base.specs.declared.server.ServerId.{ServerId}
use Rattle.bayou_serve.proofs.plan.is_among.Goals as goal

pub returns-then-eq-clause-some : goal.returns-then-eq-clause-some
returns-then-eq-clause-some c =
    let same : c.server-item.result.index ≡ c.args.id.index = search rules in
    λ _. (c.loop-server.server-index, c.server-item.result, c.loop-server-test.true, sym c.server-item.is, same)

pub returns-clause-none : goal.returns-clause-none
returns-clause-none c = λ _.
    subst (All (λ (server : ServerId). server.index ≢ c.args.id.index)) (take_all c.loop-server.server-index c.args.servers.now (omega arith)) c.loop-server.invariant
