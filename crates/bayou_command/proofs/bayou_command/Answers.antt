use Rattle.std.proofs.Common.{ap, ap₂, ◌∙◌}
use Rattle.std.proofs.lemmas.Result.{IfOk-weaker}
use Rattle.clap.specs.Words.{App, with_subcommand}
use Rattle.bayou_command.proofs.bayou_command.Goals as goal

pub returns : goal.returns
returns c =
    let top = λ (a : App). a.top in
    let first = c.in_ok-subcommand.ensures.shape c.in_ok-run_command.ensures.local ∙ ap₂ with_subcommand c.in_ok-main_command.ensures (ap top c.in_ok-run_command.ensures.app) in
    let second = c.in_ok-subcommand-2.ensures.shape c.in_ok-net_command.ensures.local ∙ ap₂ with_subcommand first (ap top c.in_ok-net_command.ensures.app) in
    let third = c.in_ok-subcommand-3.ensures.shape c.in_ok-serve_command.ensures.local ∙ ap₂ with_subcommand second (ap top c.in_ok-serve_command.ensures.app) in
    let fourth = c.in_ok-subcommand-4.ensures.shape c.in_ok-connect_command.ensures.local ∙ ap₂ with_subcommand third (ap top c.in_ok-connect_command.ensures.app) in
    let fifth = c.in_ok-subcommand-5.ensures.shape c.in_ok-key_command.ensures.local ∙ ap₂ with_subcommand fourth (ap top c.in_ok-key_command.ensures.app) in
    let sixth = c.in_ok-subcommand-6.ensures.shape c.in_ok-renew_command.ensures.local ∙ ap₂ with_subcommand fifth (ap top c.in_ok-renew_command.ensures.app) in
    let seventh = c.in_ok-subcommand-7.ensures.shape c.in_ok-export_command.ensures.local ∙ ap₂ with_subcommand sixth (ap top c.in_ok-export_command.ensures.app) in
    let eighth = c.in_ok-subcommand-8.ensures.shape c.in_ok-import_command.ensures.local ∙ ap₂ with_subcommand seventh (ap top c.in_ok-import_command.ensures.app) in
    let ninth = c.in_ok-subcommand-9.ensures.shape c.in_ok-web_command.ensures.local ∙ ap₂ with_subcommand eighth (ap top c.in_ok-web_command.ensures.app) in
    let tenth = c.in_ok-subcommand-10.ensures.shape c.in_ok-audit_command.ensures.local ∙ ap₂ with_subcommand ninth (ap top c.in_ok-audit_command.ensures.app) in
    IfOk-weaker c.subcommand-11.result _ _
    (λ command h. h.shape c.in_ok-check_command.ensures.local ∙ ap₂ with_subcommand tenth (ap top c.in_ok-check_command.ensures.app)) c.subcommand-11.ensures
