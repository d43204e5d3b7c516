use Rattle.std.proofs.Common.{arith, rules, subst}
use Rattle.bayou_final.proofs.Front.{All-take_one, front_up_to}
use Rattle.bayou_final.proofs.Known.{known_by_all}
use Rattle.bayou_final.specs.Known.{IsKnown}
use Rattle.bayou_final.proofs.views.Views.known_front.Goals as goal

pub returns-then-not-is_known-clause-front : goal.returns-then-not-is_known-clause-front
returns-then-not-is_known-clause-front c = λ views heard.
    front_up_to _ views c.args.writes.now c.loop-at.at c.index-writes-at.result (c.loop-at.invariant.known views heard) (search rules) (search rules)

pub loop-at-preserved : goal.loop-at-preserved
loop-at-preserved c = record {
  within = omega arith;
  known = λ views heard. All-take_one (λ write. IsKnown c.args.count views write.wid) c.loop-at.at c.args.writes.now c.index-writes-at.result (omega arith) (c.loop-at.invariant.known views heard)
      (subst (λ one. IsKnown c.args.count views one.wid) c.index-writes-at.is (subst (λ name. IsKnown c.args.count views name) c.wid.ensures (known_by_all c.args.count c.args.self.now views c.wid.result heard (c.is_known.ensures.known (search rules)))));
  heard = λ some place among. let (view, is, covers) = c.is_known.ensures.known (search rules) place among in (view, is);
}
