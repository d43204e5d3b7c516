use Rattle.std.proofs.Common.{rules, ◌≡◌, ◌∙◌, ap, ap₂, codes, false}
use Rattle.std.proofs.lemmas.Result.{IfOk-weaker}
use Rattle.clap.specs.Words.{app_of, new_app, rule_of, with_rule}
use Rattle.clap.specs.declared.builder.arg.Arg.{Arg}
use Rattle.bayou_command.specs.Key.{made_file_rule}
use Rattle.bayou_command.specs.Options.{needed}
use Rattle.bayou_command.proofs.key.key_command.Goals as goal

pub returns-clause-app : goal.returns-clause-app
returns-clause-app c =
    let is_global = λ (arg : Arg). arg.global in
    let bare : app_of c.after_help.result ≡ new_app (codes "key") = search rules in
    let name = ap rule_of c.required.ensures ∙ ap needed c.value_option-name.ensures.rule in
    let first = c.in_ok-arg.ensures.shape (ap is_global c.required.ensures ∙ c.value_option-name.ensures.local) ∙ ap₂ with_rule bare name in
    let file : rule_of c.required-file.result ≡ made_file_rule = search rules in
    let free : c.required-file.result.global ≡ false = search rules in
    IfOk-weaker c.arg-2.result _ _ (λ command h. h.shape free ∙ ap₂ with_rule first file) c.arg-2.ensures
