-- the lines of the Writes so far were put
use Rattle.std.proofs.Common.{take}
use Rattle.std.specs.Io.KnownBytes.{Appends}
use Rattle.bayou_print.specs.Booked.{held_text}
use Rattle.bayou_connect.proofs.audit_file.put_writes.Given as goal

abbrev pub invariant-loop-write : goal.invariant-loop-write
invariant-loop-write g l =
    Appends (g.W.Write.contents l.initial.file) (g.W.Write.contents l.file) (held_text l.holding.count l.holding.server.index (take l.write-index l.writes))
