use Rattle.std.proofs.Common.{subst}
use Rattle.bayou_judge.specs.Inner.Needs.{IsLesser}
use Rattle.bayou_judge.proofs.Faults.{least-kept, least-more}
use Rattle.bayou_judge.proofs.locate.with_write.Goals as goal

pub returns-then-is_unmet : goal.returns-then-is_unmet
returns-then-is_unmet c writes old =
    least-more writes c.args.what.now c.args.demand.now c.args.least c.args.write.now c.lesser.result old c.if-is_unmet.ensures.unmet.0 c.if-is_unmet.ensures.unmet.1
    (subst (λ wid. IsLesser c.args.least wid c.lesser.result) c.wid.ensures c.lesser.ensures)

pub returns-else-is_unmet : goal.returns-else-is_unmet
returns-else-is_unmet c writes old = least-kept writes c.args.what.now c.args.demand.now c.args.least c.args.write.now old c.if-is_unmet.ensures.met
