use Rattle.bayou_check.specs.Checked.{IsTaken, IsTakenAs}
use Rattle.bayou_check.specs.declared.kind.TextKind.{TextKind}
use Rattle.bayou_check.proofs.TakenAs.{always, neither}
use Rattle.bayou_script.specs.Order.{lines_of}
use Rattle.bayou_check.proofs.check.kind_of.Goals as goal

pub returns : goal.returns
returns c =
    let lines = lines_of c.args.text.now in
    let refused = rw c.in-Some.is at c.in_ok-least_fault.ensures in
    let audit_refused = rw c.in-Some-2.is at c.in_ok-least_fault-2.ensures in
    always c.kind_by_words.result (λ (kind : TextKind). IsTaken lines → IsTakenAs kind lines)
    (λ kind taken. absurd (neither lines _ _ _ _ c.a_script_is_read_in_one_way.ensures.not_both c.an_audit_file_is_read_in_one_way.ensures.not_both refused audit_refused taken))
