-- no session did anything by it
use Rattle.bayou_connect.specs.Viewing.{IsSameStore}
use Rattle.bayou_connect.proofs.store.Store.views.Given as goal

abbrev pub invariant-loop-at : goal.invariant-loop-at
invariant-loop-at g l = IsSameStore l.fn.self l.self
