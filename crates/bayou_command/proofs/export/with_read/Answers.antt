use Rattle.std.proofs.Common.{rules, ◌≡◌, ◌∙◌, ap, ap₂, codes, false}
use Rattle.std.proofs.lemmas.Result.{IfOk-weaker}
use Rattle.clap.specs.Words.{app_of, new_rule, rule_of, with_rule}
use Rattle.bayou_command.proofs.Given.{stays_local}
use Rattle.bayou_command.proofs.export.with_read.Goals as goal

pub returns-clause-app : goal.returns-clause-app
returns-clause-app c =
    let first = c.in_ok-arg.ensures.shape c.named_option.ensures.local ∙ ap (with_rule (app_of c.args.command)) c.named_option.ensures.rule in
    let second = c.in_ok-arg-2.ensures.shape c.number_option.ensures.local ∙ ap₂ with_rule first c.number_option.ensures.rule in
    let prefix : rule_of c.help.result ≡ new_rule (codes "PREFIX") = search rules in
    let free : c.help.result.global ≡ false = search rules in
    IfOk-weaker c.arg-3.result _ _ (λ made h. h.shape free ∙ ap₂ with_rule second prefix) c.arg-3.ensures

pub returns-clause-local : goal.returns-clause-local
returns-clause-local c =
    let free : c.help.result.global ≡ false = search rules in
    let first = c.in_ok-arg.ensures.globals ∙ stays_local _ _ c.named_option.ensures.local in
    let second = c.in_ok-arg-2.ensures.globals ∙ stays_local _ _ c.number_option.ensures.local ∙ first in
    IfOk-weaker c.arg-3.result _ _ (λ made h. h.globals ∙ stays_local _ _ free ∙ second) c.arg-3.ensures
