use Rattle.std.proofs.Common.{rules}
use Rattle.bayou_judge.proofs.survey_all.survey.Goals as goal

-- src/survey_all.rt:49:9
pub returns-in-Some : goal.returns-in-Some
returns-in-Some c = search rules
