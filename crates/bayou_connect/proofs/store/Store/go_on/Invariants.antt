-- no session did anything by it
use Rattle.std.proofs.Common.{◌≡◌}
use Rattle.bayou_connect.specs.Finals.{outlook_of, own_in}
use Rattle.bayou_connect.specs.Viewing.{IsSameStore}
use Rattle.bayou_connect.proofs.store.Store.go_on.Given as goal

abbrev pub invariant-loop-at : goal.invariant-loop-at
invariant-loop-at g l = IsSameStore l.fn.self l.self × (own_in (outlook_of l.self.views) ≡ own_in (outlook_of l.fn.self.views))
