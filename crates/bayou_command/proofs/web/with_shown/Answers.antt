use Rattle.std.proofs.Common.{rules, ◌≡◌, ◌∙◌, ap, ap₂, false}
use Rattle.std.proofs.lemmas.Result.{IfOk-weaker}
use Rattle.clap.specs.Words.{app_of, rule_of, with_rule}
use Rattle.bayou_command.specs.Options.{file_option_rule, needed}
use Rattle.bayou_command.proofs.Given.{stays_local}
use Rattle.bayou_command.proofs.web.with_shown.Goals as goal

pub returns-clause-app : goal.returns-clause-app
returns-clause-app c =
    let state : rule_of c.required.result ≡ needed (rule_of c.file_option.result) = ap rule_of c.required.ensures in
    let free : c.required.result.global ≡ false = search rules in
    let first = c.in_ok-arg.ensures.shape free ∙ ap (with_rule (app_of c.args.command)) (state ∙ ap needed c.file_option.ensures.rule) in
    let second = c.in_ok-arg-2.ensures.shape c.value_option.ensures.local ∙ ap₂ with_rule first c.value_option.ensures.rule in
    let third = c.in_ok-arg-3.ensures.shape c.value_option-2.ensures.local ∙ ap₂ with_rule second c.value_option-2.ensures.rule in
    IfOk-weaker c.arg-4.result _ _ (λ made h. h.shape c.number_option.ensures.local ∙ ap₂ with_rule third c.number_option.ensures.rule) c.arg-4.ensures

pub returns-clause-local : goal.returns-clause-local
returns-clause-local c =
    let free : c.required.result.global ≡ false = search rules in
    let first = c.in_ok-arg.ensures.globals ∙ stays_local _ _ free in
    let second = c.in_ok-arg-2.ensures.globals ∙ stays_local _ _ c.value_option.ensures.local ∙ first in
    let third = c.in_ok-arg-3.ensures.globals ∙ stays_local _ _ c.value_option-2.ensures.local ∙ second in
    IfOk-weaker c.arg-4.result _ _ (λ made h. h.globals ∙ stays_local _ _ c.number_option.ensures.local ∙ third) c.arg-4.ensures
