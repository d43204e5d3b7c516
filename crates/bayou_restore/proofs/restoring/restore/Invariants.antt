use Rattle.std.proofs.Common.{take}
use Rattle.bayou_restore.proofs.Whole.{Behind}
use Rattle.bayou_server.specs.Stored.{IsStored}
use Rattle.bayou_restore.proofs.restoring.restore.Given as goal

-- those of the Writes so far that are the server's own were made again
abbrev pub invariant-loop-write : goal.invariant-loop-write
invariant-loop-write g l = record {
  behind : Behind l.gathered l.initial.server.core l.server.core (take l.write-index l.write-items);
  stored : g.D.Device.is_modelled → IsStored g.D.Device l.initial.server → IsStored g.D.Device l.server;
}
