use Rattle.std.proofs.Common.{subst}
use Rattle.bayou_node.proofs.Several.{all_holds, exact_after}
use Rattle.bayou_node.specs.Books.{Booked, IsExact, StillHolds}
use Rattle.bayou_node.proofs.held.Held.take_meanwhile.Goals as goal

pub invariant_of-self : goal.invariant_of-self
invariant_of-self g c =
    let inside = c.self.inside in
    let booked : Booked g.row.D.Denot = record { server = inside.server; stored = inside.stored; accepted = inside.accepted.total; adopted = inside.adopted } in
    (exact_after g.L.Desks.begun booked c.take_meanwhile.new.self _ _ c.take_meanwhile.result c.take_meanwhile.ensures.takes c.self.invariant.0, c.self.invariant.1, c.self.invariant.2, c.self.invariant.3)

pub returns-clause-keeps : goal.returns-clause-keeps
returns-clause-keeps g c =
    subst (λ (held : Booked g.row.D.Denot). StillHolds held.server.core c.take_meanwhile.new.self.core) c.self.view_is
    (all_holds g.L.Desks.begun c.self.inside.server.core c.take_meanwhile.new.self.core _ _ c.take_meanwhile.result c.take_meanwhile.ensures.takes).0

pub returns-clause-exact : goal.returns-clause-exact
returns-clause-exact g c = (subst (IsExact g.L.Desks.begun) c.self.view_is c.self.invariant.0, (invariant_of-self g c).0)
