use Rattle.std.proofs.Common.{map}
use Rattle.bayou_script.specs.Laws.Network.{commands_run}
use Rattle.bayou_script.specs.NetworkSaid.{network_said}
use Rattle.bayou_script.proofs.Told.{network_told, runs_told}
use Rattle.bayou_script.proofs.network_draft.NetworkDraftFront.finish.Goals as goal

pub returns-in-Some-clause-said : goal.returns-in-Some-clause-said
returns-in-Some-clause-said c lines front in_order draft =
    let draft_of = c.args.self in
    let items = draft_of.commands.items in
    network_told lines front (map network_said items) draft_of.stage.servers c.in-Some.servers c.in-Some.is in_order draft.begins draft_of.few
    (commands_run items)

pub returns-in-Some-clause-told : goal.returns-in-Some-clause-told
returns-in-Some-clause-told c =
    let draft_of = c.args.self in
    let items = draft_of.commands.items in
    runs_told draft_of.stage.servers c.in-Some.servers (map network_said items) c.in-Some.is draft_of.few
    (commands_run items)
