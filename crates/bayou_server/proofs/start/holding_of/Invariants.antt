use Rattle.std.proofs.Common.{◌≡◌, [], false, length, None}
use Rattle.bayou_server.proofs.Entries.{SoFar}
use Rattle.bayou_server.proofs.start.holding_of.Given as goal

-- what is held is what the bodies so far stand for
abbrev pub invariant-loop-at : goal.invariant-loop-at
invariant-loop-at l = record {
  place : l.at ≡ length l.holding.log.receipts;
  so_far : SoFar l.id.index l.count l.limit l.at l.opened.bodies l.holding.log l.holding.tags.tags;
  nothing_comes : l.holding.tags.coming ≡ None;
  no_doubt : l.holding.doubt ≡ None;
  none_behind : l.holding.taking.items ≡ [];
  alone : l.holding.together ≡ false;
}
