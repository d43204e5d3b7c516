use Rattle.std.proofs.Common.{sym, subst}
use Rattle.bayou_judge.specs.Answers.{IsSurvey, SurveyAnswer}
use Rattle.bayou_judge.specs.History.{history_of, lent_lists}
use Rattle.bayou_judge.proofs.judge_all.judge.Goals as goal

pub returns-in-Ok : goal.returns-in-Ok
returns-in-Ok c =
    let dumps = lent_lists c.args.dumps.now in
    let answer = subst (SurveyAnswer c.args.count c.args.entries.now dumps) c.in-Ok.is c.in_ok-surveyed.ensures in
    c.verdict_of.ensures c.args.count dumps answer.0 (subst (IsSurvey (history_of c.args.entries.now dumps) c.args.entries.now) (sym c.deref.ensures.value) answer.1)
