use Rattle.std.proofs.Common.{rules, ◌≡◌, ◌++◌, IfOk, subst, sym}
use Rattle.std.proofs.lemmas.Result.{IfOk-weaker}
use Rattle.std.specs.Prelude.{string_bytes}
use Rattle.bayou_tasks.specs.Explanations.{IsToldOf}
use Rattle.bayou_tasks.proofs.Explains.{told_more}
use Rattle.bayou_tasks.proofs.explained.told_lines.Goals as goal

pub returns : goal.returns
returns c =
    let told = string_bytes c.in_ok-told.told in
    let more = string_bytes c.in_ok-counted.counted ++ (string_bytes c.in_ok-standing.standing ++ string_bytes c.in_ok-audited.audited) in
    let made : IfOk c.format.result (λ text. string_bytes text ≡ told ++ more) = search rules in
    IfOk-weaker c.format.result _ _ (λ text is. subst (IsToldOf c.args.shown.now) (sym is) (told_more c.args.shown.now told more c.in_ok-told.ensures)) made
