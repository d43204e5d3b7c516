-- The verdict and the survey of evidence, as answers.
use Rattle.std.specs.Prelude.{◌≡◌, ℕ, List, Result}
use Rattle.std.specs.Global.{Vec}
use Rattle.bayou_answers.specs.declared.answer.Answer.{Answer}
use Rattle.bayou_answers.specs.declared.answer.Answer.TheVariants.{Judged, Surveyed}
use Rattle.bayou_base.specs.declared.entry.Entry.{Entry}
use Rattle.bayou_judge.specs.declared.verdict.BadEvidence.{BadEvidence}
use Rattle.bayou_judge.specs.declared.verdict.Surveyed.{Surveyed as SurveyedSession}
use Rattle.bayou_judge.specs.declared.verdict.Verdict.{Verdict}
use Rattle.bayou_judge.specs.Answers.{Judges, SurveyAnswer}
use Rattle.bayou_lang.specs.declared.write.Write.{Write}

-- the verdict on these entries and dumps of so many servers
pub record IsVerdictOn (count : ℕ) (entries : List Entry) (dumps : List (List Write)) (answer : Answer) : Type 0 where
  pub result : Result Verdict BadEvidence
  pub answered : answer ≡ Judged result
  pub judges : Judges count entries dumps result

-- their survey
pub record IsSurveyOn (count : ℕ) (entries : List Entry) (dumps : List (List Write)) (answer : Answer) : Type 0 where
  pub result : Result (Vec SurveyedSession) BadEvidence
  pub answered : answer ≡ Surveyed result
  pub surveys : SurveyAnswer count entries dumps result
