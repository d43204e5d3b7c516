use Rattle.std.proofs.Common.{rules, ◌≡◌, ◌++◌, IfOk, subst, sym}
use Rattle.std.proofs.lemmas.Result.{IfOk-weaker}
use Rattle.std.specs.Prelude.{string_bytes}
use Rattle.bayou_tasks.specs.Explanations.{IsToldAsJson}
use Rattle.bayou_tasks.proofs.Explains.{told_more_json}
use Rattle.bayou_tasks.proofs.explained.told_objects.Goals as goal

pub returns : goal.returns
returns c =
    let told = string_bytes c.in_ok-told.told in
    let more = string_bytes c.in_ok-counted.counted ++ string_bytes c.in_ok-audited.audited in
    let made : IfOk c.format.result (λ text. string_bytes text ≡ told ++ more) = search rules in
    IfOk-weaker c.format.result _ _ (λ text is. subst (IsToldAsJson c.args.shown.now) (sym is) (told_more_json c.args.shown.now told more c.in_ok-told.ensures)) made
