use Rattle.std.proofs.Common.{ap}
use Rattle.std.specs.Option.{option_copied}
use Rattle.bayou_final.proofs.views.does_hold.Goals as goal

pub returns-in-Some : goal.returns-in-Some
returns-in-Some c = λ is. (c.in-Some.view.now, ap option_copied c.in-Some.is, c.dominates.ensures.counts.0 is)
