-- the dump's Writes so far are counted, and there are no more than stand before it
use Rattle.std.proofs.Common.{◌≡◌, ◌≤◌, length, take}
use Rattle.std.specs.List.{filter}
use Rattle.bayou_explain.specs.Dumped.{tells_held}
use Rattle.bayou_explain.proofs.dumped.held_at.Given as goal

abbrev pub invariant-loop-line : goal.invariant-loop-line
invariant-loop-line l = (l.seen ≡ length (filter (tells_held l.server.index) (take l.line-index l.lines))) × (l.seen ≤ l.place)
