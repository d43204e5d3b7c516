-- A text that is refused as either kind is taken as none, and one that is taken as a kind has no least line with a fault.
use Rattle.std.proofs.Common.{◌≡◌, ◌↔◌, ℕ, inl, inr, refl, List, Option, None, Some, Result, Ok, Err, IfOk}
use Rattle.std.specs.Prelude.{option_map}
use Rattle.bayou_check.specs.Checked.{ChecksAudit, ChecksScript, IsTaken, IsTakenAs}
use Rattle.bayou_check.specs.declared.kind.TextKind.TheVariants.{Audit, Script}
use Rattle.bayou_check.specs.declared.told.FaultyLine.{FaultyLine}
use Rattle.bayou_script.specs.AuditFile.{Evidence, IsAuditFile, IsAuditRefused}
use Rattle.bayou_script.specs.Script.{IsRefused, IsScript, Plan}
use Rattle.bayou_script.specs.declared.fault.ScriptFault.{ScriptFault}

pub always : {A E : Type 0} (result : Result A E) (P : A → Type 0) → ((x : A) → P x) → IfOk result P
always (Ok x) P all = all x
always (Err e) P all = tt

abbrev NotScript : Type 0
NotScript = (lines : List (List ℕ)) (plan : Plan) (number : ℕ) (fault : ScriptFault) → IsScript lines plan → ¬ IsRefused lines number fault

abbrev NotAudit : Type 0
NotAudit = (lines : List (List ℕ)) (evidence : Evidence) (number : ℕ) (fault : ScriptFault) → IsAuditFile lines evidence → ¬ IsAuditRefused lines number fault

pub neither : (lines : List (List ℕ)) (number more : ℕ) (fault other : ScriptFault) → NotScript → NotAudit → IsRefused lines number fault
    → IsAuditRefused lines more other → IsTaken lines → ⊥
neither lines number more fault other not_script not_audit refused audit_refused (inl taken) = not_script lines taken.0 number fault taken.1 refused
neither lines number more fault other not_script not_audit refused audit_refused (inr taken) = not_audit lines taken.0 more other taken.1 audit_refused

pub script_nothing : (lines : List (List ℕ)) (least : Option FaultyLine) → NotScript
    → ChecksScript lines (option_map (λ told. record { number = told.line; fault = told.fault }) least)
    → (IsTaken lines → IsTakenAs Script lines) → (least ≡ None) ↔ IsTaken lines
script_nothing lines None not_script checks taken_as = (λ _. inl checks, λ _. refl)
script_nothing lines (Some told) not_script checks taken_as =
    (λ is. absurd (cc), λ taken. absurd (not_script lines (taken_as taken).0 told.line told.fault (taken_as taken).1 checks))

pub audit_nothing : (lines : List (List ℕ)) (least : Option FaultyLine) → NotAudit
    → ChecksAudit lines (option_map (λ told. record { number = told.line; fault = told.fault }) least)
    → (IsTaken lines → IsTakenAs Audit lines) → (least ≡ None) ↔ IsTaken lines
audit_nothing lines None not_audit checks taken_as = (λ _. inr checks, λ _. refl)
audit_nothing lines (Some told) not_audit checks taken_as =
    (λ is. absurd (cc), λ taken. absurd (not_audit lines (taken_as taken).0 told.line told.fault (taken_as taken).1 checks))
