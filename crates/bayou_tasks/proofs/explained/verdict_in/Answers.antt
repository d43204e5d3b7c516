use Rattle.std.proofs.Common.{List, Result, subst, sym}
use Rattle.std.specs.Global.{Vec}
use Rattle.bayou_judge.specs.Answers.{IsSurvey, SurveyAnswer}
use Rattle.bayou_judge.specs.History.{history_of}
use Rattle.bayou_judge.specs.declared.verdict.BadEvidence.{BadEvidence}
use Rattle.bayou_judge.specs.declared.verdict.Surveyed.{Surveyed}
use Rattle.bayou_tasks.proofs.explained.verdict_in.Goals as goal

pub returns-in-Ok : goal.returns-in-Ok
returns-in-Ok c count dumps answer =
    let entries = c.args.entries.now in
    let both = subst (λ (survey : Result (Vec Surveyed) BadEvidence). SurveyAnswer count entries dumps survey) c.in-Ok.is answer in
    c.verdict_of.ensures count dumps both.0 (subst (λ (list : List Surveyed). IsSurvey (history_of entries dumps) entries list) (sym c.as_slice.ensures.value) both.1)
