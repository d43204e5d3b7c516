use Rattle.std.proofs.Common.{List, ℕ}
use Rattle.std.proofs.KnownBytes.{Keeps-refl}
use Rattle.std.proofs.lemmas.Result.{err_from_is_err_and}
use Rattle.bayou_script.specs.Network.{IsNetworkScript}
use Rattle.bayou_script.specs.Plan.{network_plan_of}
use Rattle.bayou_script.specs.Script.{lines_of}
use Rattle.bayou_shell.proofs.Nets.{if_some, nets_unread}
use Rattle.bayou_shell.proofs.net.read_net.Goals as goal

pub returns-in_err-script-clause-nets : goal.returns-in_err-script-clause-nets
returns-in_err-script-clause-nets g c =
    λ contents. let p = err_from_is_err_and c.from_residual.result c.from_residual.ensures.1 in
    rw (p.1, p.2)
    (nets_unread c.args.folder.now (g.R.Read.remaining c.args.input.now.reader) contents c.in_err-script.field-0.0 c.in_err-script.ensures.fault)

pub returns-clause-nets : goal.returns-clause-nets
returns-clause-nets g c =
    λ contents. if_some (g.R.Read.remaining c.args.input.now.reader) (λ (text : List ℕ). IsNetworkScript (lines_of text) (network_plan_of c.in_ok-script.script)) _ c.in_ok-script.ensures.script
    (λ text is. (c.in_ok-folder.ensures.ok, is, Keeps-refl contents))
