use Rattle.std.proofs.Common.{◌∙◌, ap, ap₂}
use Rattle.std.proofs.lemmas.Result.{IfOk-weaker}
use Rattle.clap.specs.Words.{app_of, rule_of, with_rule}
use Rattle.clap.specs.declared.builder.arg.Arg.{Arg}
use Rattle.bayou_command.specs.Options.{needed}
use Rattle.bayou_command.proofs.Given.{stays_local}
use Rattle.bayou_command.proofs.renew.with_whose.Goals as goal

pub returns-clause-app : goal.returns-clause-app
returns-clause-app c =
    let is_global = λ (arg : Arg). arg.global in
    let id = ap rule_of c.required.ensures ∙ ap needed c.number_option-id.ensures.rule in
    let first = c.in_ok-arg.ensures.shape (ap is_global c.required.ensures ∙ c.number_option-id.ensures.local) ∙ ap (with_rule (app_of c.args.command)) id in
    let servers = ap rule_of c.required-2.ensures ∙ ap needed c.number_option-servers.ensures.rule in
    let second = c.in_ok-arg-2.ensures.shape (ap is_global c.required-2.ensures ∙ c.number_option-servers.ensures.local) ∙ ap₂ with_rule first servers in
    let folder = ap rule_of c.help.ensures ∙ c.folder_option.ensures.rule in
    let third = c.in_ok-arg-3.ensures.shape (ap is_global c.help.ensures ∙ c.folder_option.ensures.local) ∙ ap₂ with_rule second folder in
    let to = ap rule_of c.required-3.ensures ∙ ap needed c.named_option-to.ensures.rule in
    let free = ap is_global c.required-3.ensures ∙ c.named_option-to.ensures.local in
    IfOk-weaker c.arg-4.result _ _ (λ made h. h.shape free ∙ ap₂ with_rule third to) c.arg-4.ensures

pub returns-clause-local : goal.returns-clause-local
returns-clause-local c =
    let is_global = λ (arg : Arg). arg.global in
    let first = c.in_ok-arg.ensures.globals ∙ stays_local _ _ (ap is_global c.required.ensures ∙ c.number_option-id.ensures.local) in
    let second = c.in_ok-arg-2.ensures.globals ∙ stays_local _ _ (ap is_global c.required-2.ensures ∙ c.number_option-servers.ensures.local) ∙ first in
    let third = c.in_ok-arg-3.ensures.globals ∙ stays_local _ _ (ap is_global c.help.ensures ∙ c.folder_option.ensures.local) ∙ second in
    let free = ap is_global c.required-3.ensures ∙ c.named_option-to.ensures.local in
    IfOk-weaker c.arg-4.result _ _ (λ made h. h.globals ∙ stays_local _ _ free ∙ third) c.arg-4.ensures
