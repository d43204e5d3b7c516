use Rattle.std.proofs.Common.{◌≡◌, ◌∙◌, Some, ap, ap₂, false}
use Rattle.std.proofs.lemmas.Result.{IfOk-weaker}
use Rattle.clap.specs.Words.{Rule, app_of, rule_of, with_rule}
use Rattle.clap.specs.declared.builder.arg.Arg.{Arg}
use Rattle.clap.specs.declared.builder.action.ArgAction.TheVariants.{Append}
use Rattle.bayou_command.proofs.Given.{stays_local}
use Rattle.bayou_command.proofs.export.with_asked.Goals as goal

pub returns-clause-app : goal.returns-clause-app
returns-clause-app c =
    let is_global = λ (arg : Arg). arg.global in
    let server = ap rule_of c.action.ensures ∙ ap (λ (rule : Rule). record rule { action = Some Append }) c.value_option-server.ensures.rule in
    let free = ap is_global c.action.ensures ∙ c.value_option-server.ensures.local in
    let first = c.in_ok-arg.ensures.shape free ∙ ap (with_rule (app_of c.args.command)) server in
    let second = c.in_ok-arg-2.ensures.shape c.number_option-count.ensures.local ∙ ap₂ with_rule first c.number_option-count.ensures.rule in
    let third = c.in_ok-arg-3.ensures.shape c.file_option.ensures.local ∙ ap₂ with_rule second c.file_option.ensures.rule in
    IfOk-weaker c.arg-4.result _ _ (λ made h. h.shape c.number_option.ensures.local ∙ ap₂ with_rule third c.number_option.ensures.rule) c.arg-4.ensures

pub returns-clause-local : goal.returns-clause-local
returns-clause-local c =
    let is_global = λ (arg : Arg). arg.global in
    let free : c.action.result.global ≡ false = ap is_global c.action.ensures ∙ c.value_option-server.ensures.local in
    let first = c.in_ok-arg.ensures.globals ∙ stays_local _ _ free in
    let second = c.in_ok-arg-2.ensures.globals ∙ stays_local _ _ c.number_option-count.ensures.local ∙ first in
    let third = c.in_ok-arg-3.ensures.globals ∙ stays_local _ _ c.file_option.ensures.local ∙ second in
    IfOk-weaker c.arg-4.result _ _ (λ made h. h.globals ∙ stays_local _ _ c.number_option.ensures.local ∙ third) c.arg-4.ensures
