-- whether each server so far counts as silent
use Rattle.std.proofs.Common.{◌≡◌, take}
use Rattle.bayou_connect.specs.Silence.{silent_at}
use Rattle.bayou_connect.proofs.store.Store.are_silent.Given as goal

abbrev pub invariant-loop-access : goal.invariant-loop-access
invariant-loop-access g l = l.silent.items ≡ silent_at l.now (take l.access-index l.self.accesses.items)
