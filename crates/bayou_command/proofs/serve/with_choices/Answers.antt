use Rattle.std.proofs.Common.{◌≡◌, ◌∙◌, Some, ap, ap₂, false}
use Rattle.std.proofs.lemmas.Result.{IfOk-weaker}
use Rattle.clap.specs.Words.{Rule, app_of, rule_of, with_rule}
use Rattle.clap.specs.declared.builder.arg.Arg.{Arg}
use Rattle.clap.specs.declared.builder.action.ArgAction.TheVariants.{Append}
use Rattle.bayou_command.proofs.Given.{stays_local}
use Rattle.bayou_command.proofs.serve.with_choices.Goals as goal

pub returns-clause-app : goal.returns-clause-app
returns-clause-app c =
    let peer = ap rule_of c.action.ensures ∙ ap (λ (rule : Rule). record rule { action = Some Append }) c.value_option-peer.ensures.rule in
    let free = ap (λ (arg : Arg). arg.global) c.action.ensures ∙ c.value_option-peer.ensures.local in
    let first = c.in_ok-arg.ensures.shape free ∙ ap (with_rule (app_of c.args.command)) peer in
    let second = c.in_ok-arg-2.ensures.shape c.number_option-every.ensures.local ∙ ap₂ with_rule first c.number_option-every.ensures.rule in
    let third = c.in_ok-arg-3.ensures.shape c.number_option-limit.ensures.local ∙ ap₂ with_rule second c.number_option-limit.ensures.rule in
    let fourth = c.in_ok-arg-4.ensures.shape c.number_option-connections.ensures.local ∙ ap₂ with_rule third c.number_option-connections.ensures.rule in
    let fifth = c.in_ok-arg-5.ensures.shape c.number_option-idle.ensures.local ∙ ap₂ with_rule fourth c.number_option-idle.ensures.rule in
    let sixth = c.in_ok-arg-6.ensures.shape c.file_option.ensures.local ∙ ap₂ with_rule fifth c.file_option.ensures.rule in
    let without = ap rule_of c.action-2.ensures ∙ ap (λ (rule : Rule). record rule { action = Some Append }) c.value_option-without.ensures.rule in
    let also = ap (λ (arg : Arg). arg.global) c.action-2.ensures ∙ c.value_option-without.ensures.local in
    IfOk-weaker c.arg-7.result _ _ (λ made h. h.shape also ∙ ap₂ with_rule sixth without) c.arg-7.ensures

pub returns-clause-local : goal.returns-clause-local
returns-clause-local c =
    let free : c.action.result.global ≡ false = ap (λ (arg : Arg). arg.global) c.action.ensures ∙ c.value_option-peer.ensures.local in
    let first = c.in_ok-arg.ensures.globals ∙ stays_local _ _ free in
    let second = c.in_ok-arg-2.ensures.globals ∙ stays_local _ _ c.number_option-every.ensures.local ∙ first in
    let third = c.in_ok-arg-3.ensures.globals ∙ stays_local _ _ c.number_option-limit.ensures.local ∙ second in
    let fourth = c.in_ok-arg-4.ensures.globals ∙ stays_local _ _ c.number_option-connections.ensures.local ∙ third in
    let fifth = c.in_ok-arg-5.ensures.globals ∙ stays_local _ _ c.number_option-idle.ensures.local ∙ fourth in
    let sixth = c.in_ok-arg-6.ensures.globals ∙ stays_local _ _ c.file_option.ensures.local ∙ fifth in
    let also : c.action-2.result.global ≡ false = ap (λ (arg : Arg). arg.global) c.action-2.ensures ∙ c.value_option-without.ensures.local in
    IfOk-weaker c.arg-7.result _ _ (λ made h. h.globals ∙ stays_local _ _ also ∙ sixth) c.arg-7.ensures
