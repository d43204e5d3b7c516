use Rattle.std.proofs.Common.{◌∙◌, ap, ap₂}
use Rattle.std.proofs.lemmas.Result.{IfOk-weaker}
use Rattle.clap.specs.Words.{app_of, with_rule}
use Rattle.bayou_command.proofs.Given.{stays_local}
use Rattle.bayou_command.proofs.serve.with_flags.Goals as goal

pub returns-clause-app : goal.returns-clause-app
returns-clause-app c =
    let first = c.in_ok-arg.ensures.shape c.flag.ensures.local ∙ ap (with_rule (app_of c.args.command)) c.flag.ensures.rule in
    let second = c.in_ok-arg-2.ensures.shape c.flag-2.ensures.local ∙ ap₂ with_rule first c.flag-2.ensures.rule in
    let third = c.in_ok-arg-3.ensures.shape c.flag-3.ensures.local ∙ ap₂ with_rule second c.flag-3.ensures.rule in
    IfOk-weaker c.arg-4.result _ _ (λ made h. h.shape c.flag-4.ensures.local ∙ ap₂ with_rule third c.flag-4.ensures.rule) c.arg-4.ensures

pub returns-clause-local : goal.returns-clause-local
returns-clause-local c =
    let first = c.in_ok-arg.ensures.globals ∙ stays_local _ _ c.flag.ensures.local in
    let second = c.in_ok-arg-2.ensures.globals ∙ stays_local _ _ c.flag-2.ensures.local ∙ first in
    let third = c.in_ok-arg-3.ensures.globals ∙ stays_local _ _ c.flag-3.ensures.local ∙ second in
    IfOk-weaker c.arg-4.result _ _ (λ made h. h.globals ∙ stays_local _ _ c.flag-4.ensures.local ∙ third) c.arg-4.ensures
