-- What a check of a text comes to, by its kind.
use Rattle.std.proofs.Common.{◌≡◌, ℕ, List, Option, None, Some, IfSome, MatchOption, refl, subst}
use Rattle.bayou_check.specs.Checked.{ChecksAudit, ChecksScript, least_told}
use Rattle.bayou_check.specs.declared.kind.TextKind.{TextKind}
use Rattle.bayou_check.specs.declared.kind.TextKind.TheVariants.{Audit, Script}
use Rattle.bayou_check.specs.declared.report.Report.{Report}
use Rattle.bayou_check.specs.declared.told.FaultyLine.{FaultyLine}
use Rattle.bayou_script.specs.Order.{lines_of}
use Rattle.bayou_tasks.specs.Checks.{ChecksAs, IsChecked, audit, script}

checked : (text : List ℕ) (report : Report) (kind : TextKind) → report.kind ≡ kind → (report.kind ≡ Script → ChecksScript (lines_of text) (least_told report))
    → (report.kind ≡ Audit → ChecksAudit (lines_of text) (least_told report)) → IsChecked text (least_told report)
checked text report Script is as_script as_audit = script (as_script is)
checked text report Audit is as_script as_audit = audit (as_audit is)

status : (report : Report) (told : Option FaultyLine) (status : ℕ) → report.least ≡ told → MatchOption told (status ≡ 0) (λ told. status ≡ 2)
    → MatchOption (least_told report) (status ≡ 0) (λ least. status ≡ 2)
status report None number is ends = rw is ends
status report (Some told) number is ends = rw is ends

-- the status is that of the kind that the text was checked as
pub checks : (known : Option (List ℕ)) (text : List ℕ) (report : Report) (number : ℕ) → IfSome known (λ all. text ≡ all)
    → (report.kind ≡ Script → ChecksScript (lines_of text) (least_told report)) → (report.kind ≡ Audit → ChecksAudit (lines_of text) (least_told report))
    → MatchOption report.least (number ≡ 0) (λ told. number ≡ 2) → IfSome known (λ all. ChecksAs all number)
checks None text report number whole as_script as_audit ends = tt
checks (Some all) text report number whole as_script as_audit ends =
    subst (λ (t : List ℕ). ChecksAs t number) whole
    (record { least = least_told report; checked = checked text report report.kind refl as_script as_audit; status_is = status report report.least number refl ends })
