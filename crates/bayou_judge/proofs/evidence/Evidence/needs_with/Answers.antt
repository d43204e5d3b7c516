use Rattle.bayou_judge.specs.Inner.Known.{need_for}
use Rattle.bayou_judge.proofs.Kept.{IsNeedOf-more}
use Rattle.bayou_judge.proofs.evidence.Evidence.needs_with.Goals as goal

pub returns : goal.returns
returns c session guarantee needed =
    IsNeedOf-more c.args.self.now.dumps guarantee session c.args.self.now.entries c.args.at _ (need_for c.args.needs.now guarantee) (need_for c.with.result guarantee)
    c.entry-entry.ensures.is needed (c.with.ensures.kept guarantee)
    (λ is_first write told. c.with.ensures.told guarantee write is_first.kind (c.need_of.ensures write told))
