-- What is printed of evidence: this project's own.
use Rattle.std.specs.Prelude.{◌≡◌, ◌⊎◌, ℕ, List, [], ◌++◌, Option, Result, Ok, Err, flat_map}
use Rattle.std.specs.Global.{Vec}
use Rattle.std.specs.Io.KnownBytes.{Appends, Keeps}
use Rattle.bayou_judge.specs.Answers.{Judges, SurveyAnswer}
use Rattle.bayou_judge.specs.declared.verdict.BadEvidence.{BadEvidence}
use Rattle.bayou_judge.specs.declared.verdict.Surveyed.{Surveyed}
use Rattle.bayou_judge.specs.declared.verdict.Verdict.{Verdict}
use Rattle.bayou_print.specs.Verdicts.{surveyed_text, verdict_text}
use Rattle.bayou_script.specs.AuditFile.{Evidence, IsAuditFile, IsAuditRefused}
use Rattle.bayou_script.specs.Script.{lines_of}
use Rattle.bayou_print.specs.declared.ended.Ended.{Ended}
use Rattle.bayou_print.specs.declared.fault.RunFault.{RunFault}
use Rattle.bayou_print.specs.declared.fault.RunFault.TheVariants.{Line, Device, Network, Input, Output}
use Rattle.bayou_print.specs.declared.fault.RunFault.TheVariants as fault
use Rattle.bayou_print.specs.Fault.{ended_status, verdict_status}

-- the verdict on the evidence, or why there is none
pub record IsVerdictOf (evidence : Evidence) (verdict : Result Verdict BadEvidence) : Type 0 where
  pub judges : Judges evidence.count evidence.entries evidence.dumps verdict

-- the lines of the survey of the evidence, one for each session that has an entry
abbrev pub IsSurveyOf : Evidence → List ℕ → Type 0
IsSurveyOf evidence text =
    (list : Vec Surveyed) × SurveyAnswer evidence.count evidence.entries evidence.dumps (Ok list) × (text ≡ flat_map surveyed_text list.items)

-- what stands after the verdict: the survey, and nothing where the verdict is refused
abbrev pub IsBehind : Evidence → Result Verdict BadEvidence → List ℕ → Type 0
IsBehind evidence (Ok verdict) text = IsSurveyOf evidence text
IsBehind evidence (Err bad) text = text ≡ []

-- the text is what is printed of the evidence: the verdict's line, and what stands after it
pub record IsAudit (evidence : Evidence) (ended : Ended) (text : List ℕ) : Type 0 where
  pub verdict : Result Verdict BadEvidence
  pub is : IsVerdictOf evidence verdict
  pub rest : List ℕ
  pub behind : IsBehind evidence verdict rest
  pub lines : text ≡ verdict_text verdict ++ rest
  pub comes_to : ended_status ended ≡ verdict_status verdict

-- The text is a front of it: nothing, a front of the verdict's line, or a front of both.
pub data IsAuditPart (evidence : Evidence) (text : List ℕ) : Type 0 where
  nothing : text ≡ [] → IsAuditPart evidence text
  of_verdict : (verdict : Result Verdict BadEvidence) (missing : List ℕ) → IsVerdictOf evidence verdict → verdict_text verdict ≡ text ++ missing → IsAuditPart evidence text
  of_both : (verdict : Result Verdict BadEvidence) (rest missing : List ℕ) → IsVerdictOf evidence verdict → IsBehind evidence verdict rest
      → verdict_text verdict ++ rest ≡ text ++ missing → IsAuditPart evidence text

-- What is read and written of an input. An audit file is judged, or a fault is reported with a part of the lines printed; another input is
-- refused for its least line with a fault, with nothing printed. Want of memory and of the input may come before anything is printed.
abbrev pub AuditsAs : List ℕ → Result Ended RunFault → Option (List ℕ) → Option (List ℕ) → Type 0
AuditsAs input (Ok ended) old new = (evidence : Evidence) × IsAuditFile (lines_of input) evidence × (text : List ℕ) × IsAudit evidence ended text × Appends old new text
AuditsAs input (Err (Line number fault)) old new = IsAuditRefused (lines_of input) number fault × Keeps old new
AuditsAs input (Err fault.Memory) old new =
    Keeps old new ⊎ ((evidence : Evidence) × IsAuditFile (lines_of input) evidence × (text : List ℕ) × IsAuditPart evidence text × Appends old new text)
AuditsAs input (Err Device) old new = ⊥
AuditsAs input (Err Network) old new = ⊥
AuditsAs input (Err Input) old new = Keeps old new
AuditsAs input (Err Output) old new = (evidence : Evidence) × IsAuditFile (lines_of input) evidence × (text : List ℕ) × IsAuditPart evidence text × Appends old new text
