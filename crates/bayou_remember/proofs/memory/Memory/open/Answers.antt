use Rattle.std.proofs.Common.{refl, sym, subst}
use Rattle.bayou_journal.specs.Opening.{HasOpened, KeepsChains}
use Rattle.bayou_remember.proofs.Having.{not_told}
use Rattle.bayou_remember.specs.declared.memory.TheConstants.{KEEPER}
use Rattle.bayou_remember.proofs.memory.Memory.open.Goals as goal

pub returns-in-Err-kept_in-clause-refused : goal.returns-in-Err-kept_in-clause-refused
returns-in-Err-kept_in-clause-refused g c =
    not_told g.D.Device c.args.device c.close.result c.in-Ok.opened.bodies c.in-Err-kept_in.fault
    (c.in-Ok.opened, c.in-Ok.journal.last, subst (λ (d : g.row.D.Denot). HasOpened g.D.Device KEEPER c.args.device d c.in-Ok.opened c.in-Ok.journal.last) (sym c.close.ensures) c.in-Ok.ensures.opened, refl)
    c.in-Err-kept_in.ensures.refused

pub returns-in-Err-kept_in-clause-safe_refused : goal.returns-in-Err-kept_in-clause-safe_refused
returns-in-Err-kept_in-clause-safe_refused g c = λ modelled.
    subst (λ (d : g.row.D.Denot). KeepsChains (g.D.Device.kept c.args.device) (g.D.Device.kept d)) (sym c.close.ensures) (c.in-Ok.ensures.safe modelled)
