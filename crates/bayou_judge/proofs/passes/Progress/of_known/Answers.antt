use Rattle.std.proofs.Common.{ap, subst}
use Rattle.bayou_base.specs.declared.session.SessionId.{SessionId}
use Rattle.bayou_judge.specs.Inner.Known.{IsKnown}
use Rattle.bayou_judge.proofs.Known.{starts}
use Rattle.bayou_judge.proofs.passes.Progress.of_known.Goals as goal

pub returns-in-Some : goal.returns-in-Some
returns-in-Some c dumps entries at within known = (subst (IsKnown dumps entries c.args.session.index at) c.in-Some.is known).1

pub returns-in-None : goal.returns-in-None
returns-in-None c dumps entries at within known =
    starts dumps entries c.args.session.index at c.none.result within (subst (IsKnown dumps entries c.args.session.index at) c.in-None.is known)
    (ap (λ (s : SessionId). s.index) c.none.ensures.session) c.none.ensures.found
