use Rattle.std.proofs.Common.{rules, subst}
use Rattle.bayou_node.proofs.Keeps.{reopening_keeps, reopening_server}
use Rattle.bayou_node.specs.Books.{Booked, StillHolds}
use Rattle.bayou_node.proofs.held.Held.reopen.Goals as goal

-- src/held.rt:178:24
pub returns-in_err-reopened-clause-keeps : goal.returns-in_err-reopened-clause-keeps
returns-in_err-reopened-clause-keeps g c =
    subst (λ (held : Booked g.row.D.Denot). StillHolds held.server.core c.reopen.new.self.core) c.self.view_is
    (reopening_keeps c.self.inside.server.core c.self.inside.server.taking c.reopen.result c.reopen.new.self.core c.reopen.ensures.reopens)

-- src/held.rt:167:5
pub returns-clause-keeps : goal.returns-clause-keeps
returns-clause-keeps g c =
    subst (λ (held : Booked g.row.D.Denot). StillHolds held.server.core c.reopen.new.self.core) c.self.view_is
    (reopening_keeps c.self.inside.server.core c.self.inside.server.taking c.reopen.result c.reopen.new.self.core c.reopen.ensures.reopens)

-- src/held.rt:167:5
pub invariant_of-self-2 : goal.invariant_of-self-2
invariant_of-self-2 g c =
    search (rules, reopening_server g.L.Desks.begun c.self.inside.server.core c.self.inside.server.taking c.reopen.result c.reopen.new.self.core c.reopen.ensures.reopens c.self.invariant.0.is)

-- src/held.rt:167:5
pub returns-clause-counts : goal.returns-clause-counts
returns-clause-counts g c = search rules

-- src/held.rt:167:5
pub returns-clause-exact : goal.returns-clause-exact
returns-clause-exact g c =
    search (rules, reopening_server g.L.Desks.begun c.self.inside.server.core c.self.inside.server.taking c.reopen.result c.reopen.new.self.core c.reopen.ensures.reopens c.self.invariant.0.is)
