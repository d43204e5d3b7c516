use Rattle.std.proofs.Common.{◌∙◌}
use Rattle.bayou_serve.proofs.Gathering.{same_count}
use Rattle.bayou_serve.proofs.restoring.gather_over.Goals as goal

pub returns-in-Ok : goal.returns-in-Ok
returns-in-Ok g c =
    let received = c.in-Ok.ensures.ends.2.1 in
    same_count c.new-gathered.result c.pull_from_on.new.replica received.writes received.tooks received.took ∙ c.new-gathered.ensures.0
