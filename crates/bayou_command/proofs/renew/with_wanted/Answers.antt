use Rattle.std.proofs.Common.{◌≡◌, ◌∙◌, Some, ap, ap₂, false}
use Rattle.std.proofs.lemmas.Result.{IfOk-weaker}
use Rattle.clap.specs.Words.{Rule, app_of, rule_of, with_rule}
use Rattle.clap.specs.declared.builder.arg.Arg.{Arg}
use Rattle.clap.specs.declared.builder.action.ArgAction.TheVariants.{Append}
use Rattle.bayou_command.specs.Options.{needed}
use Rattle.bayou_command.proofs.Given.{stays_local}
use Rattle.bayou_command.proofs.renew.with_wanted.Goals as goal

pub returns-clause-app : goal.returns-clause-app
returns-clause-app c =
    let is_global = λ (arg : Arg). arg.global in
    let at = ap rule_of c.required.ensures ∙ ap needed c.value_option-at.ensures.rule in
    let first = c.in_ok-arg.ensures.shape (ap is_global c.required.ensures ∙ c.value_option-at.ensures.local) ∙ ap (with_rule (app_of c.args.command)) at in
    let second = c.in_ok-arg-2.ensures.shape c.number_option-then.ensures.local ∙ ap₂ with_rule first c.number_option-then.ensures.rule in
    let without = ap rule_of c.action.ensures ∙ ap (λ (rule : Rule). record rule { action = Some Append }) c.value_option-without.ensures.rule in
    let free = ap is_global c.action.ensures ∙ c.value_option-without.ensures.local in
    let third = c.in_ok-arg-3.ensures.shape free ∙ ap₂ with_rule second without in
    IfOk-weaker c.arg-4.result _ _ (λ made h. h.shape c.flag.ensures.local ∙ ap₂ with_rule third c.flag.ensures.rule) c.arg-4.ensures

pub returns-clause-local : goal.returns-clause-local
returns-clause-local c =
    let is_global = λ (arg : Arg). arg.global in
    let first = c.in_ok-arg.ensures.globals ∙ stays_local _ _ (ap is_global c.required.ensures ∙ c.value_option-at.ensures.local) in
    let second = c.in_ok-arg-2.ensures.globals ∙ stays_local _ _ c.number_option-then.ensures.local ∙ first in
    let free : c.action.result.global ≡ false = ap is_global c.action.ensures ∙ c.value_option-without.ensures.local in
    let third = c.in_ok-arg-3.ensures.globals ∙ stays_local _ _ free ∙ second in
    IfOk-weaker c.arg-4.result _ _ (λ made h. h.globals ∙ stays_local _ _ c.flag.ensures.local ∙ third) c.arg-4.ensures
