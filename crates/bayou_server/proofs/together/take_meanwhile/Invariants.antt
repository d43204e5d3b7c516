-- the Writes so far were given, one after another, and some are left or at least one was taken
use Rattle.std.proofs.Common.{◌≡◌, ◌⊎◌, ◌<◌, ◌+◌, [], None, length}
use Rattle.bayou_server.specs.Inner.Fields.{BelongTogether, core_of, server_of}
use Rattle.bayou_server.specs.Several.{StoresAll, TakesHeld, left_behind}
use Rattle.bayou_server.specs.TakesAll.{TakesAll}
use Rattle.bayou_server.proofs.together.take_meanwhile.Given as goal

abbrev pub invariant-loop-writes : goal.invariant-loop-writes
invariant-loop-writes g l = record {
  took : TakesAll TakesHeld (core_of l.fn.holding l.id.index) l.fn.writes.items (left_behind l.told.refused l.holding.taking.items l.writes.items) l.told (core_of l.holding l.id.index);
  stored : StoresAll g.D.Device (server_of l.fn.journal l.fn.holding l.id.index) l.told.refused (server_of l.journal l.holding l.id.index);
  together : BelongTogether l.journal l.holding l.id.index;
  some : l.told.refused ≡ None → (l.writes.items ≡ []) ⊎ (0 < l.told.taken + l.told.had);
}

abbrev pub decreases-loop-writes : goal.decreases-loop-writes
decreases-loop-writes g l = length l.writes.items
