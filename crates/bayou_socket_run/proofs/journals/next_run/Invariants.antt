use Rattle.std.proofs.Common.{◌+◌, All, take}
use Rattle.bayou_socket_run.specs.Inner.Runs.{HasRunsBefore}
use Rattle.bayou_socket_run.proofs.journals.next_run.Given as goal

abbrev pub invariant-loop-at : goal.invariant-loop-at
invariant-loop-at l = All (λ server. HasRunsBefore (l.last + 1) server.value.core) (take l.at l.servers.items)
