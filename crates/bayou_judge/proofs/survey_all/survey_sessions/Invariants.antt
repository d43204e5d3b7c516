use Rattle.bayou_judge.specs.History.{history_of}
use Rattle.bayou_judge.specs.Inner.Verdicts.{IsSurveyTo}
use Rattle.bayou_judge.proofs.survey_all.survey_sessions.Given as goal

abbrev pub invariant-loop-session : goal.invariant-loop-session
invariant-loop-session l = IsSurveyTo (history_of l.evidence.entries l.evidence.dumps) l.evidence.entries l.session l.list.items
