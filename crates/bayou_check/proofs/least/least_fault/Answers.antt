use Rattle.std.proofs.Common.{List, ℕ, [], append-nil, subst}
use Rattle.bayou_script.specs.declared.fault.InputRefusal.{InputRefusal}
use Rattle.bayou_script.specs.Order.{RefusedBy, lines_of}
use Rattle.bayou_check.proofs.least.least_fault.Goals as goal

pub returns-in-Ok : goal.returns-in-Ok
returns-in-Ok g c = c.at_end.ensures c.args.text.now (c.in-Ok.ensures [] c.new-reader.ensures)

pub returns-in_ok-least_of-in-Err : goal.returns-in_ok-least_of-in-Err
returns-in_ok-least_of-in-Err g c =
    let order = g.F.Front.order in
    let text = c.args.text.now in
    let refused = c.in-Err.ensures [] c.new-reader.ensures [] in
    let whole = subst (λ (bytes : List ℕ). RefusedBy order (lines_of bytes) c.in-Err.refusal) (append-nil text) refused in
    subst (λ (refusal : InputRefusal). RefusedBy order (lines_of text) refusal) c.in_ok-least_of-in-Err.ensures whole
