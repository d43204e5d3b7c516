use Rattle.bayou_renew.proofs.Outcomes.{not_renewed, rows_of}
use Rattle.bayou_renew.proofs.renewing.rows_on.Goals as goal

pub returns-in-Ok-clause-rows : goal.returns-in-Ok-clause-rows
returns-in-Ok-clause-rows g c = λ modelled.
    rows_of _ _ c.args.plan.now (g.D.Device.content c.args.old.now) c.in-Ok.server c.rows_within.result (c.in-Ok.ensures.copied modelled) c.rows_within.ensures.at c.rows_within.ensures.rows

pub returns-in-Ok-clause-refused : goal.returns-in-Ok-clause-refused
returns-in-Ok-clause-refused g c = λ modelled.
    not_renewed _ _ _ c.args.plan.now (g.D.Device.content c.args.old.now) c.in-Ok.server c.rows_within.result (c.in-Ok.ensures.copied modelled) c.rows_within.ensures.refused
