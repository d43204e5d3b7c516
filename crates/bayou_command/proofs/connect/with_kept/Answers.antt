use Rattle.std.proofs.Common.{rules, ◌≡◌, ◌∙◌, ap, ap₂, false}
use Rattle.std.proofs.lemmas.Result.{IfOk-weaker}
use Rattle.clap.specs.Words.{app_of, rule_of, with_rule}
use Rattle.bayou_command.specs.Options.{file_rule}
use Rattle.bayou_command.proofs.Given.{stays_local}
use Rattle.bayou_command.proofs.connect.with_kept.Goals as goal

pub returns-clause-app : goal.returns-clause-app
returns-clause-app c =
    let first = c.in_ok-arg.ensures.shape c.file_option.ensures.local ∙ ap (with_rule (app_of c.args.command)) c.file_option.ensures.rule in
    let second = c.in_ok-arg-2.ensures.shape c.file_option-2.ensures.local ∙ ap₂ with_rule first c.file_option-2.ensures.rule in
    let third = c.in_ok-arg-3.ensures.shape c.file_option-3.ensures.local ∙ ap₂ with_rule second c.file_option-3.ensures.rule in
    let fourth = c.in_ok-arg-4.ensures.shape c.number_option.ensures.local ∙ ap₂ with_rule third c.number_option.ensures.rule in
    let fifth = c.in_ok-arg-5.ensures.shape c.number_option-2.ensures.local ∙ ap₂ with_rule fourth c.number_option-2.ensures.rule in
    let sixth = c.in_ok-arg-6.ensures.shape c.flag.ensures.local ∙ ap₂ with_rule fifth c.flag.ensures.rule in
    let file : rule_of c.help.result ≡ file_rule = search rules in
    let free : c.help.result.global ≡ false = search rules in
    IfOk-weaker c.arg-7.result _ _ (λ made h. h.shape free ∙ ap₂ with_rule sixth file) c.arg-7.ensures

pub returns-clause-local : goal.returns-clause-local
returns-clause-local c =
    let free : c.help.result.global ≡ false = search rules in
    let first = c.in_ok-arg.ensures.globals ∙ stays_local _ _ c.file_option.ensures.local in
    let second = c.in_ok-arg-2.ensures.globals ∙ stays_local _ _ c.file_option-2.ensures.local ∙ first in
    let third = c.in_ok-arg-3.ensures.globals ∙ stays_local _ _ c.file_option-3.ensures.local ∙ second in
    let fourth = c.in_ok-arg-4.ensures.globals ∙ stays_local _ _ c.number_option.ensures.local ∙ third in
    let fifth = c.in_ok-arg-5.ensures.globals ∙ stays_local _ _ c.number_option-2.ensures.local ∙ fourth in
    let sixth = c.in_ok-arg-6.ensures.globals ∙ stays_local _ _ c.flag.ensures.local ∙ fifth in
    IfOk-weaker c.arg-7.result _ _ (λ made h. h.globals ∙ stays_local _ _ free ∙ sixth) c.arg-7.ensures
