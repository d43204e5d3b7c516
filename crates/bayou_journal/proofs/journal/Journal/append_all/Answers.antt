-- What is added behind keeps each chain.
use Rattle.std.proofs.Common.{◌∙◌}
use Rattle.bayou_journal.proofs.Ending.{added_keeps}
use Rattle.bayou_journal.proofs.journal.Journal.append_all.Goals as goal

pub returns-in-Ok-clause-safe : goal.returns-in-Ok-clause-safe
returns-in-Ok-clause-safe g c =
    rw (← c.self.view_is)
    (λ modelled. added_keeps (g.D.Device.kept c.self.inside.device) (g.D.Device.content c.self.inside.device) c.deref.result.now (g.D.Device.kept c.write_through.new.device)
    (g.met.D.Device.keeps c.self.inside.device) (c.in-Ok.ensures.synced ∙ c.in-Ok.ensures.added modelled))
