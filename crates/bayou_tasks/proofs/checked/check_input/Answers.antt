use Rattle.std.proofs.Common.{rules, ◌≡◌, ℕ, List, IfSome, subst}
use Rattle.bayou_tasks.proofs.Checking.{checks}
use Rattle.bayou_tasks.proofs.checked.check_input.Goals as goal

pub returns : goal.returns
returns g c =
    let known = g.R.Read.remaining c.args.input.now.reader in
    let same : c.in_ok-text.text.items ≡ c.as_slice.result.now = search rules in
    checks known c.as_slice.result.now c.in_ok-report.report c.status_of.result (subst (λ (t : List ℕ). IfSome known (λ all. t ≡ all)) same c.in_ok-text.ensures.whole)
    c.in_ok-report.ensures.script c.in_ok-report.ensures.audit c.status_of.ensures
