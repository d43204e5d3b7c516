use Rattle.bayou_export.proofs.Exported.{exported, memory_alone}
use Rattle.bayou_export.proofs.journal.export_of.Goals as goal

pub returns-in-Ok-clause-exported : goal.returns-in-Ok-clause-exported
returns-in-Ok-clause-exported g c = λ modelled.
    exported _ c.args.whose c.args.prefix.now (g.D.Device.content c.args.device.now) c.in-Ok.server c.export_at.result (c.in-Ok.ensures.copied modelled) c.export_at.ensures.server
    c.export_at.ensures.vector c.export_at.ensures.rows

pub returns-in-Ok-clause-refused : goal.returns-in-Ok-clause-refused
returns-in-Ok-clause-refused g c = λ modelled. memory_alone _ c.export_at.result c.export_at.ensures.fault
