use Rattle.std.proofs.Common.{take}
use Rattle.bayou_judge.specs.declared.breach.Guarantee.{Guarantee}
use Rattle.bayou_judge.specs.Inner.Known.{need_for}
use Rattle.bayou_judge.specs.Inner.Needs.{AreFoundTo, IsNeedOf}
use Rattle.bayou_judge.proofs.evidence.Evidence.breaches_of.Given as goal

abbrev pub invariant-loop-at : goal.invariant-loop-at
invariant-loop-at l = record {
  found : AreFoundTo l.self.dumps l.self.entries l.guarantee l.session.index l.at l.list.items;
  needs : (guarantee : Guarantee) → IsNeedOf l.self.dumps guarantee l.session.index (take l.at l.self.entries) (need_for l.needs guarantee);
}
