-- What an audit that is explained comes to.
use Rattle.std.specs.Prelude.{◌≡◌, ℕ, Bool, true, false, List, [], ◌++◌, MatchOption, Option, None, Result, Ok, Err, if◌then◌else◌, length, option_map, string_bytes}
use Rattle.std.specs.Global.{Vec}
use Rattle.bayou_command.specs.Audit.{Audit}
use Rattle.bayou_base.specs.declared.entry.Entry.{Entry}
use Rattle.bayou_explain.specs.Explained.{breaches_of, every_of}
use Rattle.bayou_explain.specs.Explanation.{TellEach, counted_line}
use Rattle.bayou_explain.specs.Json.{TellEachAsJson, counted_json, surveys_json, verdict_json}
use Rattle.bayou_judge.specs.Answers.{AreAllBreaches, IsEvidence, IsSurvey, Refuses, SurveyAnswer}
use Rattle.bayou_judge.specs.History.{history_of}
use Rattle.bayou_judge.specs.declared.breach.Breach.{Breach}
use Rattle.bayou_judge.specs.declared.every.SessionBreaches.{SessionBreaches}
use Rattle.bayou_lang.specs.declared.write.Write.{Write}
use Rattle.bayou_judge.specs.declared.verdict.BadEvidence.{BadEvidence}
use Rattle.bayou_judge.specs.declared.verdict.Surveyed.{Surveyed}
use Rattle.bayou_judge.specs.declared.verdict.Verdict.{Verdict}
use Rattle.bayou_picture.specs.Marks.{breaches_found}
use Rattle.bayou_picture.specs.Picture.{Pictures}
use Rattle.bayou_print.specs.declared.ended.Ended.{Ended}
use Rattle.bayou_print.specs.Fault.{ended_status, verdict_status}
use Rattle.bayou_script.specs.AuditFile.{Evidence, IsAuditFile}
use Rattle.bayou_script.specs.Script.{lines_of}
use Rattle.bayou_tasks.specs.Audit.{IsAudit, IsVerdictOf}
use Rattle.bayou_tasks.specs.Checks.{input_kept}
use Rattle.bayou_tasks.specs.declared.explained.AuditOutcome.{AuditOutcome}
use Rattle.bayou_tasks.specs.declared.explained.Beside.{Beside}
use Rattle.bayou_tasks.specs.declared.explained.Explaining.{Explaining}
use Rattle.bayou_streams.specs.Account.{Account, TakesBytes}

-- what is to be audited, and what is printed of it, is what the words say
pub record IsExplainingOf (asked : Audit) (explaining : Explaining) : Type 0 where
  pub file : asked.file ≡ input_kept (option_map (λ name. string_bytes name) explaining.file)
  pub is_explained : asked.is_explained ≡ explaining.is_explained
  pub is_all : asked.is_all ≡ explaining.is_all
  pub is_json : asked.is_json ≡ explaining.is_json
  pub picture : asked.picture ≡ option_map (λ name. string_bytes name) explaining.picture

-- the survey of the evidence, or why there is none
abbrev pub IsSurveyedOf : Evidence → Result (Vec Surveyed) BadEvidence → Type 0
IsSurveyedOf evidence survey = SurveyAnswer evidence.count evidence.entries evidence.dumps survey

-- the breaches are all that the evidence shows, or the least of each guarantee in each session; or it is refused so
abbrev pub Shows : (is_all : Bool) → ℕ → List Entry → List (List Write) → Result (Vec Breach) BadEvidence → Type 0
Shows true count entries dumps (Ok list) = IsEvidence count entries dumps
    × ((found : List SessionBreaches) × AreAllBreaches (history_of entries dumps) found × (list.items ≡ every_of found))
Shows false count entries dumps (Ok list) = IsEvidence count entries dumps
    × ((survey : List Surveyed) × IsSurvey (history_of entries dumps) entries survey × (list.items ≡ breaches_of survey))
Shows is_all count entries dumps (Err bad) = Refuses count entries dumps bad

abbrev pub IsShownOf : (is_all : Bool) → Evidence → Result (Vec Breach) BadEvidence → Type 0
IsShownOf is_all evidence shown = Shows is_all evidence.count evidence.entries evidence.dumps shown

-- how many breaches there are is printed where every one is
abbrev pub IsCounted : Beside → Result (Vec Breach) BadEvidence → List ℕ → Type 0
IsCounted beside (Ok list) text = text ≡ (if beside.is_all then (if beside.is_json then counted_json (length list.items) else counted_line (length list.items)) else [])
IsCounted beside (Err bad) text = text ≡ []

-- what is printed begins with each of the breaches; of a refused verdict nothing is said here
abbrev pub IsToldOf : Result (Vec Breach) BadEvidence → List ℕ → Type 0
IsToldOf (Ok list) text = (breaches rest : List ℕ) × TellEach list.items breaches × (text ≡ breaches ++ rest)
IsToldOf (Err bad) text = Unit {0}

-- the same as lines of JSON
abbrev pub IsToldAsJson : Result (Vec Breach) BadEvidence → List ℕ → Type 0
IsToldAsJson (Ok list) text = (breaches rest : List ℕ) × TellEachAsJson list.items breaches × (text ≡ breaches ++ rest)
IsToldAsJson (Err bad) text = Unit {0}

-- either where it is asked for, and nothing else
abbrev pub IsToldBeside : (is_explained is_json : Bool) → Result (Vec Breach) BadEvidence → List ℕ → Type 0
IsToldBeside true false shown text = IsToldOf shown text
IsToldBeside true true shown text = IsToldAsJson shown text
IsToldBeside false is_json shown text = text ≡ []

abbrev pub survey_json : Result (Vec Surveyed) BadEvidence → List ℕ
survey_json (Ok survey) = surveys_json survey.items
survey_json (Err bad) = []

-- the text is the verdict on the evidence and its survey, as lines of JSON
pub record IsJsonAudit (evidence : Evidence) (ended : Ended) (text : List ℕ) : Type 0 where
  pub verdict : Result Verdict BadEvidence
  pub is : IsVerdictOf evidence verdict
  pub survey : Result (Vec Surveyed) BadEvidence
  pub surveyed : IsSurveyedOf evidence survey
  pub lines : text ≡ verdict_json verdict ++ survey_json survey
  pub comes_to : ended_status ended ≡ verdict_status verdict

-- the text is what is printed of the evidence, as it is asked for
abbrev pub SaysAudit : (is_json : Bool) → Evidence → Ended → List ℕ → Type 0
SaysAudit true evidence ended text = IsJsonAudit evidence ended text
SaysAudit false evidence ended text = IsAudit evidence ended text

-- a picture in which just the breaches of the survey are drawn, where one is asked for, and nothing else
abbrev pub IsDrawnBeside : Bool → Result (Vec Surveyed) BadEvidence → Option (Vec ℕ) → Type 0
IsDrawnBeside true survey picture = MatchOption picture ⊥ (λ text. Pictures (breaches_found survey) text.items)
IsDrawnBeside false survey picture = picture ≡ None

-- The text is an audit file: verdict and survey are printed as an audit prints them, or as JSON, and then what explains them, where that is asked for. The status is the
-- audit's, and the picture is of its survey.
pub record ExplainsAs (beside : Beside) (text : List ℕ) (made : AuditOutcome) (old new : Account) : Type 0 where
  pub evidence : Evidence
  pub is : IsAuditFile (lines_of text) evidence
  pub ended : Ended
  pub audit : List ℕ
  pub audited : SaysAudit beside.is_json evidence ended audit
  pub survey : Result (Vec Surveyed) BadEvidence
  pub surveyed : IsSurveyedOf evidence survey
  pub shown : Result (Vec Breach) BadEvidence
  pub shows : IsShownOf beside.is_all evidence shown
  pub told : List ℕ
  pub tells : IsToldBeside beside.is_explained beside.is_json shown told
  pub printed : TakesBytes old new (audit ++ told)
  pub status_is : made.status ≡ ended_status ended
  pub drawn : IsDrawnBeside beside.is_drawn survey made.picture
