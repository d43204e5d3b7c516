use Rattle.std.proofs.Common.{subst}
use Rattle.bayou_node.proofs.Keeps.{taking_keeps}
use Rattle.bayou_node.specs.Books.{Booked, StillHolds}
use Rattle.bayou_node.proofs.held.Held.take.Goals as goal

-- src/held.rt:156:5
pub returns-clause-keeps : goal.returns-clause-keeps
returns-clause-keeps g c =
    subst (λ (held : Booked g.row.D.Denot). StillHolds held.server.core c.take.new.self.core) c.self.view_is
    (taking_keeps c.self.inside.server.core c.args.write c.take.result c.take.new.self.core c.take.ensures.takes)
