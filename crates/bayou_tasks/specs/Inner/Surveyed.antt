-- Evidence that was surveyed. No public clause cites this.
use Rattle.std.specs.Prelude.{◌≡◌, List, Ok}
use Rattle.std.specs.Global.{Vec}
use Rattle.bayou_judge.specs.Answers.{SurveyAnswer}
use Rattle.bayou_judge.specs.declared.verdict.Surveyed.{Surveyed}
use Rattle.bayou_script.specs.AuditFile.{Evidence}

-- these are the sessions of the survey of the evidence
abbrev pub IsEvidenceSurveyed : Evidence → List Surveyed → Type 0
IsEvidenceSurveyed evidence surveyed =
    (list : Vec Surveyed) × (list.items ≡ surveyed) × SurveyAnswer evidence.count evidence.entries evidence.dumps (Ok list)
