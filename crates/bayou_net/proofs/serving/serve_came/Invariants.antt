-- the frames so far were requests that were served
use Rattle.std.proofs.Common.{◌≡◌, ◌+◌, ◌≤◌, ◌++◌, ℕ, List, Option, drop}
use Rattle.std.specs.List.{AllByRecursion}
use Rattle.bayou_net.specs.Serving.{HasServed}
use Rattle.bayou_wire.specs.Spelling.{IsFrame}
use Rattle.bayou_wire.specs.Stream.{spellings}
use Rattle.bayou_net.proofs.serving.serve_came.Given as goal

abbrev pub invariant-loop-request : goal.invariant-loop-request
invariant-loop-request g l = record {
  few : l.number ≤ l.initial.number + l.request-index;
  went : (start : g.row.S.Denot) (read behind : List ℕ) (before : Option (List ℕ)) → AllByRecursion IsFrame l.frames
      → HasServed {S = g.row.S.Denot} (record { list = g.S.Replica.list; reads = g.S.Served.reads; writes = g.S.Served.writes; reopens = g.S.Served.reopens })
      start l.initial.served read (spellings l.frames ++ behind) l.initial.number before (g.W.Write.contents l.initial.channel.writer)
      → HasServed {S = g.row.S.Denot} (record { list = g.S.Replica.list; reads = g.S.Served.reads; writes = g.S.Served.writes; reopens = g.S.Served.reopens })
      start l.served read (spellings (drop l.request-index l.frames) ++ behind) l.number before (g.W.Write.contents l.channel.writer);
  fewer : l.channel.turns_left ≤ l.initial.channel.turns_left;
  other : (l.channel.reader ≡ l.initial.channel.reader) × (l.channel.read_failed ≡ l.initial.channel.read_failed);
}
