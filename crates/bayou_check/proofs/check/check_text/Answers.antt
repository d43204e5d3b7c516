use Rattle.std.proofs.Common.{subst}
use Rattle.std.proofs.lemmas.Result.{IfOk-weaker}
use Rattle.bayou_script.specs.Order.{lines_of}
use Rattle.bayou_check.specs.Checked.{IsTakenAs}
use Rattle.bayou_check.specs.declared.kind.TextKind.{TextKind}
use Rattle.bayou_check.proofs.TakenAs.{audit_nothing, script_nothing}
use Rattle.bayou_check.proofs.check.check_text.Goals as goal

pub returns-in-Script-clause-nothing : goal.returns-in-Script-clause-nothing
returns-in-Script-clause-nothing c =
    let lines = lines_of c.args.text.now in
    IfOk-weaker c.check_script.result _ _
    (λ report checks. script_nothing lines report.least c.a_script_is_read_in_one_way.ensures.not_both checks
    (λ taken. subst (λ (kind : TextKind). IsTakenAs kind lines) c.in-Script.is (c.in_ok-kind_of.ensures taken)))
    c.check_script.ensures.least

pub returns-in-Audit-clause-nothing : goal.returns-in-Audit-clause-nothing
returns-in-Audit-clause-nothing c =
    let lines = lines_of c.args.text.now in
    IfOk-weaker c.check_audit.result _ _
    (λ report checks. audit_nothing lines report.least c.an_audit_file_is_read_in_one_way.ensures.not_both checks
    (λ taken. subst (λ (kind : TextKind). IsTakenAs kind lines) c.in-Audit.is (c.in_ok-kind_of.ensures taken)))
    c.check_audit.ensures.least
