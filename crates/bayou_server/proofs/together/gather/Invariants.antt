-- the Writes so far are held, as if their entries were stored, and so many bytes are left in the piece
use Rattle.std.proofs.Common.{◌≡◌, ◌+◌}
use Rattle.bayou_journal.specs.Chain.{entries_bytes}
use Rattle.bayou_journal.specs.declared.format.TheConstants.{ENTRY_BYTES}
use Rattle.bayou_server.specs.Inner.Gathering.{AreGathered, bytes_of}
use Rattle.bayou_server.proofs.together.gather.Given as goal

abbrev pub invariant-loop-size : goal.invariant-loop-size
invariant-loop-size l = record {
  gathered : AreGathered l.id.index l.fn.holding l.fn.writes.items l.writes.items (bytes_of l.bodies.items) l.holding;
  within : entries_bytes (bytes_of l.bodies.items) + l.room ≡ ENTRY_BYTES;
}

abbrev pub decreases-loop-size : goal.decreases-loop-size
decreases-loop-size l = l.room
