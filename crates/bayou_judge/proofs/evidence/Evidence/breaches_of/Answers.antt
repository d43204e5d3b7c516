use Rattle.std.proofs.Common.{◌≡◌, length, take, sym, subst, arith}
use Rattle.bayou_judge.specs.Inner.Needs.{IsNeedOf}
use Rattle.bayou_judge.proofs.Found.{found_all}
use Rattle.bayou_judge.proofs.evidence.Evidence.breaches_of.Goals as goal

-- src/every.rt
pub put_breach-requires-clause-need : goal.put_breach-requires-clause-need
put_breach-requires-clause-need c =
    subst (IsNeedOf c.args.self.now.dumps c.args.guarantee c.args.session.index (take c.loop-at.at c.args.self.now.entries)) (sym c.of.ensures) (c.loop-at.invariant.needs c.args.guarantee)

-- src/every.rt
pub loop-at-preserved : goal.loop-at-preserved
loop-at-preserved c = record {
  found = c.in_ok-put_breach.ensures c.loop-at.invariant.found;
  needs = λ guarantee. c.needs_after-needs.ensures guarantee (c.loop-at.invariant.needs guarantee);
}

-- src/every.rt
pub returns : goal.returns
returns c =
    let evidence = c.args.self.now in
    let whole : c.loop-at.at ≡ length evidence.entries = omega (arith, c.loop-at-test.false, c.loop-at.auto.at-end, c.size-at-end.ensures) in
    found_all evidence.count evidence.entries evidence.dumps evidence.indexes c.recall.ensures c.args.guarantee c.args.session.index c.loop-at.at c.loop-at.list.items whole c.loop-at.invariant.found
