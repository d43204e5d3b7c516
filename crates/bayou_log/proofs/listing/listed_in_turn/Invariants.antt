use Rattle.std.proofs.Common.{◌≡◌, ◌++◌, drop}
use Rattle.bayou_log.specs.Inner.Fields.{picked}
use Rattle.bayou_log.specs.Inner.Beside.{listed_with}
use Rattle.bayou_log.proofs.listing.listed_in_turn.Given as goal

abbrev pub invariant-loop-place : goal.invariant-loop-place
invariant-loop-place l = record {
  target : l.list.items ++ listed_with (picked l.writes (drop l.place l.order)) (drop l.place l.outcomes) ≡ listed_with (picked l.writes l.order) l.outcomes;
}
