use Rattle.std.proofs.Common.{rules, ◌≡◌, ◌∙◌, ap₂, codes, false}
use Rattle.std.proofs.lemmas.Result.{IfOk-weaker}
use Rattle.clap.specs.Words.{app_of, new_app, rule_of, with_rule}
use Rattle.bayou_command.specs.Words.{file_rule}
use Rattle.bayou_command.proofs.run.run_command.Goals as goal

pub returns-clause-app : goal.returns-clause-app
returns-clause-app c =
    let bare : app_of c.after_help.result ≡ new_app (codes "run") = search rules in
    let first = c.in_ok-arg.ensures.shape c.flag.ensures.local ∙ ap₂ with_rule bare c.flag.ensures.rule in
    let file : rule_of c.help-file.result ≡ file_rule = search rules in
    let free : c.help-file.result.global ≡ false = search rules in
    IfOk-weaker c.arg-2.result _ _ (λ command h. h.shape free ∙ ap₂ with_rule first file) c.arg-2.ensures
