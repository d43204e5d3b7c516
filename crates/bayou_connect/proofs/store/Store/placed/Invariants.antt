-- no session did anything by it
use Rattle.std.proofs.Common.{◌≡◌}
use Rattle.bayou_connect.specs.Viewing.{IsSameStore}
use Rattle.bayou_connect.proofs.store.Store.placed.Given as goal

abbrev pub invariant-loop-at : goal.invariant-loop-at
invariant-loop-at g l = IsSameStore l.fn.self l.self × (l.self.views ≡ l.fn.self.views)
