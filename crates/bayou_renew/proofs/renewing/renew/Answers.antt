use Rattle.bayou_renew.proofs.Outcomes.{all_renewed, memory_alone}
use Rattle.bayou_renew.proofs.renewing.renew.Goals as goal

pub returns-in-Ok-clause-renewed : goal.returns-in-Ok-clause-renewed
returns-in-Ok-clause-renewed g c = λ modelled.
    all_renewed _ c.args.plan.now (g.D.Device.content c.args.old.now) c.in-Ok.rows.items c.deref.result.now c.server_of.result c.deref.ensures.value (c.in-Ok.ensures.rows modelled) c.in-Ok.ensures.few c.server_of.ensures.made
    c.server_of.ensures.whose c.server_of.ensures.keys c.server_of.ensures.digest

pub returns-in-Ok-clause-refused : goal.returns-in-Ok-clause-refused
returns-in-Ok-clause-refused g c = λ modelled. memory_alone _ _ _ c.args.plan.now (g.D.Device.content c.args.old.now) c.server_of.result c.server_of.ensures.fault
