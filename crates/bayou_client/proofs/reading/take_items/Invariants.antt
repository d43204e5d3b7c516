-- the frames so far were Items that are kept
use Rattle.std.proofs.Common.{◌++◌, ℕ, List, drop}
use Rattle.std.specs.List.{AllByRecursion}
use Rattle.bayou_client.specs.Replies.{Begins}
use Rattle.bayou_wire.specs.Spelling.{IsFrame}
use Rattle.bayou_wire.specs.Stream.{spellings}
use Rattle.bayou_client.proofs.reading.take_items.Given as goal

abbrev pub invariant-loop-frame : goal.invariant-loop-frame
invariant-loop-frame l = record {
  went : (read behind : List ℕ) → AllByRecursion IsFrame l.frames
      → Begins l.fn.many read l.initial.writes.items (spellings l.frames ++ behind)
      → Begins l.fn.many read l.writes.items (spellings (drop l.frame-index l.frames) ++ behind);
}
