use Rattle.std.proofs.Common.{take, sym, ◌∙◌, subst}
use Rattle.bayou_judge.specs.Inner.Needs.{IsFirstBreach, IsNeedOf}
use Rattle.bayou_judge.proofs.Known.{first_more}
use Rattle.bayou_judge.proofs.evidence.Evidence.first_with.Goals as goal

pub returns-in-Some : goal.returns-in-Some
returns-in-Some c =
    subst (IsFirstBreach c.args.self.now.dumps c.args.self.now.entries c.args.guarantee c.args.session.index c.args.at) (sym c.found_of.ensures ∙ c.in-Some.is)
    (c.requires.progress.found c.args.guarantee)

pub returns-in-None : goal.returns-in-None
returns-in-None c =
    first_more c.args.self.now.dumps c.args.self.now.entries c.args.guarantee c.args.session.index c.args.at
    (subst (IsFirstBreach c.args.self.now.dumps c.args.self.now.entries c.args.guarantee c.args.session.index c.args.at) (sym c.found_of.ensures ∙ c.in-None.is)
    (c.requires.progress.found c.args.guarantee))
    c.requires.at c.breach_of.result c.breach_of.ensures

pub breach_of-requires-clause-need : goal.breach_of-requires-clause-need
breach_of-requires-clause-need c =
    subst (IsNeedOf c.args.self.now.dumps c.args.guarantee c.args.session.index (take c.args.at c.args.self.now.entries)) (sym c.of.ensures) (c.requires.progress.needs c.args.guarantee)
