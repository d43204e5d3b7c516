use Rattle.std.proofs.Common.{◌≡◌, ◌≤◌, ◌+◌, ◌++◌, drop, length, take, vec_capacity}
use Rattle.bayou_log.specs.Db.{database_of, room}
use Rattle.bayou_log.specs.Inner.Fields.{outcomes_after, picked}
use Rattle.bayou_log.specs.Inner.Undone.{changes_in, changes_of, AddsUndone}
use Rattle.bayou_log.specs.Replay.{after_writes}
use Rattle.bayou_log.proofs.undo.apply_in_turn.Given as goal

abbrev pub invariant-loop-at : goal.invariant-loop-at
invariant-loop-at l = record {
  now : database_of l.db ≡ after_writes (picked l.writes (take l.at-index l.order)) (database_of l.initial.db);
  same_keys : room l.db ≡ room l.initial.db;
  adds : AddsUndone (picked l.writes (take l.at-index l.order)) (database_of l.initial.db) l.initial.undone l.undone;
  changes : changes_in l.undone.undos + changes_of (picked l.writes (drop l.at-index l.order)) ≤ l.undone.room;
  entries : length l.undone.undos + length (drop l.at-index l.order) ≤ l.undone.places;
  became : l.outcomes.items ≡ l.initial.outcomes.items ++ outcomes_after (picked l.writes (take l.at-index l.order)) (database_of l.initial.db);
  same_capacity : vec_capacity l.outcomes ≡ vec_capacity l.initial.outcomes;
  left : length l.outcomes.items + length (drop l.at-index l.order) ≤ vec_capacity l.outcomes;
}
