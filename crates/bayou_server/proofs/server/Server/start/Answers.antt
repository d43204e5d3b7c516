use Rattle.std.proofs.Common.{sym, subst}
use Rattle.bayou_journal.specs.Opening.{KeepsChains}
use Rattle.bayou_server.proofs.server.Server.start.Goals as goal

pub returns-in-Err-holding_of-clause-safe : goal.returns-in-Err-holding_of-clause-safe
returns-in-Err-holding_of-clause-safe g c = λ modelled.
    subst (λ (d : g.row.D.Denot). KeepsChains (g.D.Device.kept c.args.device) (g.D.Device.kept d)) (sym c.close.ensures) (c.in-Ok.ensures.safe modelled)
