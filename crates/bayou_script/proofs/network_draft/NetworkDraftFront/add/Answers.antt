use Rattle.std.proofs.Common.{arith, subst, sym}
use Rattle.bayou_text.specs.Said.{said}
use Rattle.bayou_text.specs.declared.line.Line.{Line}
use Rattle.bayou_script.specs.Inner.NetworkDraft.{IsNetworkDraftOf}
use Rattle.bayou_script.specs.Network.{network_order}
use Rattle.bayou_script.specs.Order.{HasAdded}
use Rattle.bayou_script.proofs.network_draft.NetworkDraftFront.add.Goals as goal

pub returns-in-Servers : goal.returns-in-Servers
returns-in-Servers c front draft =
    subst (λ (line : Line). HasAdded network_order IsNetworkDraftOf c.args.number front (said line) c.start.new.self c.start.result) (sym c.in-Servers.is)
    (c.start.ensures c.args.number front (omega arith) draft)
