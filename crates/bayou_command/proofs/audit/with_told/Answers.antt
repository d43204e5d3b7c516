use Rattle.std.proofs.Common.{rules, ◌≡◌, ◌∙◌, ap, ap₂, false, true}
use Rattle.std.proofs.lemmas.Result.{IfOk-weaker}
use Rattle.clap.specs.Words.{app_of, rule_of, with_rule}
use Rattle.bayou_command.specs.Options.{file_rule}
use Rattle.bayou_command.proofs.Given.{stays_local}
use Rattle.bayou_command.proofs.audit.with_told.Goals as goal

pub returns-clause-app : goal.returns-clause-app
returns-clause-app c =
    let first = c.in_ok-arg.ensures.shape c.flag.ensures.local ∙ ap (with_rule (app_of c.args.command)) c.flag.ensures.rule in
    let second = c.in_ok-arg-2.ensures.shape c.flag-2.ensures.local ∙ ap₂ with_rule first c.flag-2.ensures.rule in
    let third = c.in_ok-arg-3.ensures.shape c.flag-3.ensures.local ∙ ap₂ with_rule second c.flag-3.ensures.rule in
    let fourth = c.in_ok-arg-4.ensures.shape c.named_option.ensures.local ∙ ap₂ with_rule third c.named_option.ensures.rule in
    let file : rule_of c.required.result ≡ (record file_rule { required = true }) = search rules in
    let free : c.required.result.global ≡ false = search rules in
    IfOk-weaker c.arg-5.result _ _ (λ made h. h.shape free ∙ ap₂ with_rule fourth file) c.arg-5.ensures

pub returns-clause-local : goal.returns-clause-local
returns-clause-local c =
    let free : c.required.result.global ≡ false = search rules in
    let first = c.in_ok-arg.ensures.globals ∙ stays_local _ _ c.flag.ensures.local in
    let second = c.in_ok-arg-2.ensures.globals ∙ stays_local _ _ c.flag-2.ensures.local ∙ first in
    let third = c.in_ok-arg-3.ensures.globals ∙ stays_local _ _ c.flag-3.ensures.local ∙ second in
    let fourth = c.in_ok-arg-4.ensures.globals ∙ stays_local _ _ c.named_option.ensures.local ∙ third in
    IfOk-weaker c.arg-5.result _ _ (λ made h. h.globals ∙ stays_local _ _ free ∙ fourth) c.arg-5.ensures
