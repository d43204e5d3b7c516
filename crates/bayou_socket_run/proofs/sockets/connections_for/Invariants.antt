-- those of the commands so far
use Rattle.std.proofs.Common.{◌≡◌, min, take}
use Rattle.bayou_socket_run.specs.Inner.Runs.{connections_of}
use Rattle.bayou_socket_run.specs.declared.sockets.TheConstants.{MOST}
use Rattle.bayou_socket_run.proofs.sockets.connections_for.Given as goal

abbrev pub invariant-loop-at : goal.invariant-loop-at
invariant-loop-at l = l.connections ≡ min (connections_of (take l.at l.commands.items)) MOST
