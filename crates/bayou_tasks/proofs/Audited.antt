-- Audits: what was printed of a verdict and of a survey.
use Rattle.std.proofs.Common.{◌≡◌, ◌≤◌, ◌∙◌, ◌++◌, ℕ, List, [], ◌∷◌, Option, None, Some, IfSome, IfErr, IfOk, OnOk, Result, Ok, Err, inl, inr, ap, sym, refl, subst, append_assoc}
use Rattle.std.proofs.lemmas.List.{append-nil}
use Rattle.std.proofs.KnownBytes.{Keeps-refl}
use Rattle.bayou_judge.specs.declared.verdict.BadEvidence.{BadEvidence}
use Rattle.bayou_judge.specs.declared.verdict.Surveyed.{Surveyed}
use Rattle.bayou_judge.specs.declared.verdict.Verdict.{Verdict}
use Rattle.std.specs.Global.{Vec}
use Rattle.bayou_judge.specs.Answers.{IsEvidence, IsSurvey, Judges, SurveyAnswer}
use Rattle.bayou_judge.specs.History.{history_of}
use Rattle.bayou_base.specs.declared.entry.Entry.{Entry}
use Rattle.bayou_lang.specs.declared.write.Write.{Write}
use Rattle.bayou_tasks.specs.Inner.Surveyed.{IsEvidenceSurveyed}
use Rattle.std.specs.Prelude.{flat_map}
use Rattle.bayou_print.specs.Verdicts.{surveyed_text, verdict_text}
use Rattle.bayou_script.specs.AuditFile.{Evidence, IsAuditFile, audit_order}
use Rattle.bayou_script.specs.Order.{lines_of}
use Rattle.bayou_streams.specs.Account.{Account, Pays, TakesBytes}
use Rattle.bayou_base.specs.declared.limits.TheConstants.{MAX_TURNS}
use Rattle.bayou_streams.specs.Laws.Taken.{Pays-part, Pays-whole}
use Rattle.bayou_print.specs.Turns.{cut_lines}
use Rattle.bayou_print.specs.Fault.{ended_status, verdict_status}
use Rattle.bayou_tasks.specs.Audit.{AuditsAs, IsAudit, IsAuditPart, IsBehind, IsSurveyOf, IsVerdictOf, nothing, of_both, of_verdict}
use Rattle.bayou_print.specs.declared.ended.Ended.{Ended}
use Rattle.bayou_print.specs.declared.fault.RunFault.{RunFault}
use Rattle.bayou_print.specs.declared.fault.RunFault.TheVariants.{Line, Device, Network, Input, Output}
use Rattle.bayou_print.specs.declared.fault.RunFault.TheVariants as faults
use Rattle.bayou_print.specs.Faults.{IsRunFault}
use Rattle.bayou_tasks.specs.Faults.{IsReadFault}
use Rattle.bayou_print.specs.Waiting.{Gathers, Stage}
use Rattle.bayou_print.specs.Laws.Gathered.{Gathers-nil, Gathers-trans}

-- a front of a front is one
pub part_front : (evidence : Evidence) (text front rest : List ℕ) → text ≡ front ++ rest → IsAuditPart evidence text → IsAuditPart evidence front
part_front evidence text [] rest split part = nothing refl
part_front evidence text front rest split (nothing none) = nothing (front_none front rest (sym split ∙ none))
  where
    front_none : (front rest : List ℕ) → front ++ rest ≡ [] → front ≡ []
    front_none [] rest is = refl
    front_none (byte ∷ bytes) rest is = absurd (cc)
part_front evidence text front rest split (of_verdict verdict missing is lines) =
    of_verdict verdict (rest ++ missing) is (lines ∙ ap (λ l. l ++ missing) split ∙ append_assoc front rest missing)
part_front evidence text front rest split (of_both verdict behind missing is survey lines) =
    of_both verdict behind (rest ++ missing) is survey (lines ∙ ap (λ l. l ++ missing) split ∙ append_assoc front rest missing)

-- the whole is a front
pub part_whole : (evidence : Evidence) (ended : Ended) (text : List ℕ) → IsAudit evidence ended text → IsAuditPart evidence text
part_whole evidence ended text all = of_both all.verdict all.rest [] all.is all.behind (sym all.lines ∙ sym (append-nil text))

-- nothing was printed
pub no_part : (evidence : Evidence) (a : Stage) → (text missing : List ℕ) × IsAuditPart evidence text × Gathers a a text missing
no_part evidence a = ([], [], nothing refl, Gathers-nil a)

-- a part of the verdict's line
pub verdict_part : (evidence : Evidence) (verdict : Result Verdict BadEvidence) (a b : Stage) → IsVerdictOf evidence verdict
    → (missing : List ℕ) × Gathers a b (verdict_text verdict) missing → (text missing : List ℕ) × IsAuditPart evidence text × Gathers a b text missing
verdict_part evidence verdict a b is (missing, gathered) =
    (verdict_text verdict, missing, of_verdict verdict [] is (sym (append-nil (verdict_text verdict))), gathered)

-- the verdict's line, and a part of the survey
pub both_part : (evidence : Evidence) (verdict : Result Verdict BadEvidence) (a b c : Stage) (rest missing : List ℕ) → IsVerdictOf evidence verdict → IsBehind evidence verdict rest
    → Gathers a b (verdict_text verdict) [] → Gathers b c rest missing → (text missing : List ℕ) × IsAuditPart evidence text × Gathers a c text missing
both_part evidence verdict a b c rest missing is behind one two = (
  verdict_text verdict ++ rest,
  missing,
  of_both verdict rest [] is behind (sym (append-nil (verdict_text verdict ++ rest))),
  Gathers-trans a b c (verdict_text verdict) rest missing one two,
)

-- the verdict that is found in the survey of the evidence
pub verdict_is : (evidence : Evidence) (entries : List Entry) (surveyed : List Surveyed) (verdict : Verdict) → entries ≡ evidence.entries → IsEvidenceSurveyed evidence surveyed
    → ((count : ℕ) (dumps : List (List Write)) → IsEvidence count entries dumps → IsSurvey (history_of entries dumps) entries surveyed → Judges count entries dumps (Ok verdict))
    → IsVerdictOf evidence (Ok verdict)
verdict_is evidence entries surveyed verdict same (list, items, (stands, survey)) judges =
    record {
      judges = subst
          (λ (entries : List Entry). (count : ℕ) (dumps : List (List Write)) → IsEvidence count entries dumps → IsSurvey (history_of entries dumps) entries surveyed → Judges count entries dumps (Ok verdict))
          same judges evidence.count evidence.dumps stands (subst (IsSurvey (history_of evidence.entries evidence.dumps) evidence.entries) items survey);
    }

-- what a survey answered is the answer on the evidence
pub answer_is : (evidence : Evidence) (entries : List Entry) (dumps lent : List (List Write)) (answer told : Result (Vec Surveyed) BadEvidence) → entries ≡ evidence.entries → lent ≡ dumps
    → dumps ≡ evidence.dumps → answer ≡ told → SurveyAnswer evidence.count entries lent answer → SurveyAnswer evidence.count evidence.entries evidence.dumps told
answer_is evidence entries dumps lent answer told same lending are is answers =
    subst (SurveyAnswer evidence.count evidence.entries evidence.dumps) is
    (subst (λ (entries : List Entry). SurveyAnswer evidence.count entries evidence.dumps answer) same
    (subst (λ (dumps : List (List Write)). SurveyAnswer evidence.count entries dumps answer) (lending ∙ are) answers))

-- where it is refused, there is no verdict
pub refused_is : (evidence : Evidence) (bad : BadEvidence) → SurveyAnswer evidence.count evidence.entries evidence.dumps (Err bad) → IsVerdictOf evidence (Err bad)
refused_is evidence bad refuses = record { judges = refuses }

-- and the survey behind it
pub survey_behind : (evidence : Evidence) (surveyed : List Surveyed) → IsEvidenceSurveyed evidence surveyed → IsSurveyOf evidence (flat_map surveyed_text surveyed)
survey_behind evidence surveyed (list, items, survey) = (list, survey, ap (flat_map surveyed_text) (sym items))

-- where the input isn't taken as an audit file, nothing is printed
pub AuditsAs-unread : (known contents : Option (List ℕ)) (fault : RunFault) → IsReadFault audit_order known fault → IfSome known (λ input. AuditsAs input (Err fault) contents contents)
AuditsAs-unread None contents fault is = tt
AuditsAs-unread (Some input) contents (Line number why) refused = (refused, Keeps-refl contents)
AuditsAs-unread (Some input) contents faults.Memory is = inl (Keeps-refl contents)
AuditsAs-unread (Some input) contents Device is = absurd is
AuditsAs-unread (Some input) contents Network is = absurd is
AuditsAs-unread (Some input) contents Input is = Keeps-refl contents
AuditsAs-unread (Some input) contents Output is = absurd is

-- want of memory before anything was printed
pub AuditsAs-memory : (known contents : Option (List ℕ)) → IfSome known (λ input. AuditsAs input (Err faults.Memory) contents contents)
AuditsAs-memory None contents = tt
AuditsAs-memory (Some input) contents = inl (Keeps-refl contents)

-- a file that was read is audited as it is told
pub AuditsAs-file : (known : Option (List ℕ)) (old new : Account) (evidence : Evidence) (result : Result Ended RunFault)
    → IfSome known (λ text. IsAuditFile (lines_of text) evidence)
    → IfOk result (λ ended. (text : List ℕ) × IsAudit evidence ended text × TakesBytes old new text)
    → IfErr result (λ fault. IsRunFault fault × (text : List ℕ) × IsAuditPart evidence text × TakesBytes old new text)
    → IfSome known (λ input. AuditsAs input result old.contents new.contents)
AuditsAs-file None old new evidence result file ok err = tt
AuditsAs-file (Some input) old new evidence (Ok ended) file (text, is, took) err = (evidence, file, text, is, took.bytes)
AuditsAs-file (Some input) old new evidence (Err (Line number why)) file ok (is, text, part, took) = absurd is
AuditsAs-file (Some input) old new evidence (Err faults.Memory) file ok (is, text, part, took) = inr (evidence, file, text, part, took.bytes)
AuditsAs-file (Some input) old new evidence (Err Device) file ok (is, text, part, took) = absurd is
AuditsAs-file (Some input) old new evidence (Err Network) file ok (is, text, part, took) = absurd is
AuditsAs-file (Some input) old new evidence (Err Input) file ok (is, text, part, took) = absurd is
AuditsAs-file (Some input) old new evidence (Err Output) file ok (is, text, part, took) = (evidence, file, text, part, took.bytes)

-- the verdict's line, and what stands behind it
pub audit_of : (evidence : Evidence) (verdict : Result Verdict BadEvidence) (ended : Ended) (a b c : Stage) (rest : List ℕ) → IsVerdictOf evidence verdict → IsBehind evidence verdict rest
    → Gathers a b (verdict_text verdict) [] → Gathers b c rest [] → ended_status ended ≡ verdict_status verdict → (text : List ℕ) × IsAudit evidence ended text × Gathers a c text []
audit_of evidence verdict ended a b c rest is behind one two status = (
  verdict_text verdict ++ rest,
  record { verdict = verdict; is = is; rest = rest; behind = behind; lines = refl; comes_to = status },
  Gathers-trans a b c (verdict_text verdict) rest [] one two,
)

-- why there is no verdict, and nothing behind it
pub refused_of : (evidence : Evidence) (bad : BadEvidence) (a b : Stage) (result : Result Ended RunFault) → IsVerdictOf evidence (Err bad)
    → IfOk result (λ ended. (ended_status ended ≡ verdict_status (Err bad)) × Gathers a b (verdict_text (Err bad)) [])
    → IfOk result (λ ended. (text : List ℕ) × IsAudit evidence ended text × Gathers a b text [])
refused_of evidence bad a b (Ok ended) is (status, one) = audit_of evidence (Err bad) ended a b b [] is refl one (Gathers-nil b) status
refused_of evidence bad a b (Err fault) is none = tt

pub refused_part : (evidence : Evidence) (bad : BadEvidence) (a b : Stage) (result : Result Ended RunFault) → IsVerdictOf evidence (Err bad)
    → IfErr result (λ fault. IsRunFault fault × (missing : List ℕ) × Gathers a b (verdict_text (Err bad)) missing)
    → IfErr result (λ fault. IsRunFault fault × (text missing : List ℕ) × IsAuditPart evidence text × Gathers a b text missing)
refused_part evidence bad a b (Ok ended) is none = tt
refused_part evidence bad a b (Err fault) is (run, missing, gathered) =
    let (text, missing, part, took) = verdict_part evidence (Err bad) a b is (missing, gathered) in
    (run, text, missing, part, took)

-- what was spent on it
pub audit_paid : (evidence : Evidence) (old new : Account) (result : Result Ended RunFault) → old.turns_left ≤ MAX_TURNS
    → IfOk result (λ ended. (text : List ℕ) × IsAudit evidence ended text × TakesBytes old new text)
    → IfErr result (λ fault. IsRunFault fault × (text : List ℕ) × IsAuditPart evidence text × TakesBytes old new text)
    → OnOk result (old.turns_left ≤ new.turns_left) → Pays old new (cut_lines result)
audit_paid evidence old new (Ok ended) within (text, is, took) err ready = Pays-whole old new text took ready
audit_paid evidence old new (Err fault) within ok (is, text, part, took) ready = Pays-part old new text within took
